-- The meaning of a file, walked command by command. Assumes nothing.
use Rattle.std.proofs.Common.{◌≡◌, ℕ, zero, suc, ◌+◌, ◌-◌, ◌<◌, ◌≤◌, Bool, true, false, cond, ltb, List, length, Some, None, Option, sym, refl, ap, ◌∙◌, add-one, arith}
use Rattle.std.proofs.lemmas.Bool.{le-ltb, le-leb, and_left}
use Rattle.plan.specs.declared.faults.Row.{Row}
use Rattle.plan.specs.declared.faults.Row.TheVariants.{EndsEarly}
use Rattle.plan.specs.Content.{Content}
use Rattle.plan.specs.Entries.{blank, first_row, added}
use Rattle.plan.specs.File.{rows_at, blamed, not_command, ends_early, entry_at, is_end, width, Meaning, sets, blames, judged, meaning_from, meaning}
use Rattle.plan.proofs.RowOrder.{right_from}

module _ (file : List ℕ) where
  -- at the end of the file, nothing but its early end
  past : (n at : ℕ) (c : Content) → length file ≤ at → meaning_from (suc n) file at c ≡ blames EndsEarly (length file)
  past n at c le =
      let unknown : not_command file at ≡ false = and_left (ltb at (length file)) _ (le-ltb at (length file) le) in
      let early : ends_early file at ≡ true = le-leb (length file) (at + (width file at - 1)) (omega arith) in
      rw (unknown, early)

  same_judged : (o : Option Row) (at : ℕ) (x y : Meaning) → (o ≡ None → x ≡ y) → judged o file at x ≡ judged o file at y
  same_judged (Some row) at x y h = refl
  same_judged None at x y h = h refl

  same_cond : (b : Bool) (c : Content) (x y : Meaning) → (b ≡ false → x ≡ y) → cond b (sets c) x ≡ cond b (sets c) y
  same_cond true c x y h = refl
  same_cond false c x y h = h refl

  -- a bound that reaches past the file is as good as any other
  enough : (n m at : ℕ) (c : Content) → length file < at + n → length file < at + m → meaning_from n file at c ≡ meaning_from m file at c
  enough zero zero at c p q = refl
  enough zero (suc m) at c p q = sym (past m at c (omega arith))
  enough (suc n) zero at c p q = past n at c (omega arith)
  enough (suc n) (suc m) at c p q =
      same_judged (first_row (rows_at file at c)) at _ _ (λ none.
      same_cond (is_end (entry_at file at)) c _ _ (λ more.
      let r = right_from file at c none in
      enough n m (at + width file at) (added c (entry_at file at)) (omega (arith, r.wide)) (omega (arith, r.wide))))

  -- what is left of the meaning at a place: the bound is one more than the bytes that are left
  abbrev pub onward : ℕ → Content → Meaning
  onward at c = meaning_from (length file - at + 1) file at c

  onward_is : (at : ℕ) (c : Content) → onward at c ≡ meaning_from (suc (length file - at)) file at c
  onward_is at c = ap (λ n. meaning_from n file at c) (add-one (length file - at))

  pub onward_start : onward 0 blank ≡ meaning file
  onward_start = enough (length file - 0 + 1) (length file + 1) 0 blank (omega arith) (omega arith)

  pub onward_fault : (at : ℕ) (c : Content) (row : Row) → first_row (rows_at file at c) ≡ Some row → onward at c ≡ blames row (blamed row file at)
  onward_fault at c row e = onward_is at c ∙ rw e

  pub onward_end : (at : ℕ) (c : Content) → first_row (rows_at file at c) ≡ None → is_end (entry_at file at) ≡ true → onward at c ≡ sets c
  onward_end at c e t = onward_is at c ∙ rw (e, t)

  pub onward_more : (at : ℕ) (c : Content) → first_row (rows_at file at c) ≡ None → is_end (entry_at file at) ≡ false → onward at c ≡ onward (at + width file at) (added c (entry_at file at))
  onward_more at c e t =
      let r = right_from file at c e in
      let unfolded : meaning_from (suc (length file - at)) file at c ≡ meaning_from (length file - at) file (at + width file at) (added c (entry_at file at)) = rw (e, t) in
      onward_is at c ∙ unfolded ∙ enough (length file - at) _ (at + width file at) (added c (entry_at file at)) (omega (arith, r.wide, r.room)) (omega (arith, r.room))

  -- How a walk from a place ends, where P holds of each place and content that it comes to.
  abbrev pub Comes : (ℕ → Content → Type 0) → Meaning → Type 0
  Comes P (sets c) = (at : ℕ) × P at c × (first_row (rows_at file at c) ≡ None) × (is_end (entry_at file at) ≡ true)
  Comes P (blames row byte) = (at : ℕ) × (c : Content) × P at c × (first_row (rows_at file at c) ≡ Some row) × (byte ≡ blamed row file at)

  module _ (P : ℕ → Content → Type 0) (inside : (at : ℕ) (c : Content) → P at c → at ≤ length file)
      (step : (at : ℕ) (c : Content) → P at c → first_row (rows_at file at c) ≡ None → is_end (entry_at file at) ≡ false → P (at + width file at) (added c (entry_at file at))) where
    ended : (b : Bool) (at : ℕ) (c : Content) (x : Meaning) → P at c → first_row (rows_at file at c) ≡ None → is_end (entry_at file at) ≡ b → (b ≡ false → Comes P x) → Comes P (cond b (sets c) x)
    ended true at c x p none e h = (at, p, none, e)
    ended false at c x p none e h = h refl

    decided : (o : Option Row) (at : ℕ) (c : Content) (x : Meaning) → P at c → first_row (rows_at file at c) ≡ o → (o ≡ None → Comes P x) → Comes P (judged o file at x)
    decided (Some row) at c x p e h = (at, c, p, e, refl)
    decided None at c x p e h = h refl

    walk : (n at : ℕ) (c : Content) → P at c → length file < at + n → Comes P (meaning_from n file at c)
    walk zero at c p lt = absurd (omega (arith, inside at c p))
    walk (suc n) at c p lt =
        decided (first_row (rows_at file at c)) at c _ p refl (λ none.
        ended (is_end (entry_at file at)) at c _ p none refl (λ more.
        let r = right_from file at c none in
        walk n (at + width file at) (added c (entry_at file at)) (step at c p none more) (omega (arith, r.wide))))

    pub walked : P 0 blank → Comes P (meaning file)
    walked p = walk (length file + 1) 0 blank p (omega arith)
