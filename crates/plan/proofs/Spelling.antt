-- The commands that are read from a file are what is written in it. Assumes nothing.
use Rattle.std.proofs.Common.{◌≡◌, ℕ, zero, suc, ◌+◌, ◌≤◌, Bool, true, false, cond, eqb, List, [], ◌∷◌, ◌++◌, length, get_or, take, Some, None, sym, refl, ap, ◌∙◌, subst, arith, take-append-drop}
use Rattle.std.proofs.lemmas.List.{append-nil, append_assoc, drop_more, drop-take, take-take}
use Rattle.std.proofs.lemmas.Bool.{eqb-true, both_ways}
use Rattle.std.proofs.lemmas.Bool.Decides.{nat_tests}
use Rattle.plan.specs.declared.faults.Row.{Row}
use Rattle.plan.specs.declared.faults.Row.TheVariants.{NotCommand, EndsEarly, TooSoon, Unfinished, TooMany, OutOfRange, NotRising, Hyperperiod, AfterEnd}
use Rattle.plan.specs.Content.{Content}
use Rattle.plan.specs.Entries.{Entry, set_table, set_point, set_delay, set_task, ends, first_row, plan_rows, added}
use Rattle.plan.specs.File.{by_first, width, word, part, task_operands, entry_at, is_end, rows_at, blamed, not_command, ends_early}
use Rattle.plan.specs.Laws.{SpellsWord, Spells, Written, Leads}
use Rattle.plan.proofs.RowOrder.{sized}

module _ (file : List ℕ) where
  abbrev byte : ℕ → ℕ
  byte i = get_or file i 0

  -- n bytes from a place on, one by one
  abbrev unrolled : ℕ → ℕ → List ℕ
  unrolled zero at = []
  unrolled (suc n) at = byte at ∷ unrolled n (at + 1)

  unroll : (n at : ℕ) → at + n ≤ length file → part file at n ≡ unrolled n at
  unroll zero at le = refl
  unroll (suc n) at le = rw (drop_more file at 0 (omega arith)) (ap (λ bs. byte at ∷ bs) (unroll n (at + 1) (omega arith)))

  spells_word : (b at : ℕ) → at + 3 ≤ length file → byte at ≡ b → SpellsWord b (word file (at + 1)) (part file at 3)
  spells_word b at le e = (byte (at + 1), byte (at + 1 + 1), unroll 3 at le ∙ ap (λ x. x ∷ byte (at + 1) ∷ byte (at + 1 + 1) ∷ []) e, refl)

  spells_task : (at : ℕ) → at + 10 ≤ length file → byte at ≡ 0x4A → Spells (task_operands file (at + 1)) (part file at 10)
  spells_task at le e =
      let a = at + 1 in
      let i5 : a + 1 + 1 + 1 + 1 ≡ a + 4 = omega arith in
      let i6 : a + 4 + 1 + 1 ≡ a + 6 = omega arith in
      let i8 : a + 6 + 1 + 1 ≡ a + 8 = omega arith in
      let name = unroll 4 a (omega arith) in
      let all : part file at 10 ≡ 0x4A ∷ part file a 4 ++ byte (a + 4) ∷ byte (a + 4 + 1) ∷ byte (a + 6) ∷ byte (a + 6 + 1) ∷ byte (a + 8) ∷ [] = rw name (unroll 10 at le ∙ rw (i5, i6, i8, e)) in
      (byte (a + 4), byte (a + 4 + 1), byte (a + 6), byte (a + 6 + 1), ap length name, all, refl, refl)

  -- the first byte decides: one test after the other, each where those before it failed
  first_is : (P : ℕ → Entry → Type 0) (b : ℕ) (t p d j e : Entry)
      → (b ≡ 0x54 → P 3 t) → (b ≡ 0x50 → P 3 p) → (b ≡ 0x44 → P 3 d) → (b ≡ 0x4A → P 10 j) → (b ≡ 0x45 → P 1 e)
      → 1 ≤ by_first b 3 3 3 10 1 0 → P (by_first b 3 3 3 10 1 0) (by_first b t p d j e e)
  first_is P b t p d j e ht hp hd hj he some = go (eqb b 0x54) (eqb b 0x50) (eqb b 0x44) (eqb b 0x4A) (eqb b 0x45) refl refl refl refl refl some
    where
      go : (x1 x2 x3 x4 x5 : Bool) → eqb b 0x54 ≡ x1 → eqb b 0x50 ≡ x2 → eqb b 0x44 ≡ x3 → eqb b 0x4A ≡ x4 → eqb b 0x45 ≡ x5
          → 1 ≤ cond x1 3 (cond x2 3 (cond x3 3 (cond x4 10 (cond x5 1 0))))
          → P (cond x1 3 (cond x2 3 (cond x3 3 (cond x4 10 (cond x5 1 0))))) (cond x1 t (cond x2 p (cond x3 d (cond x4 j (cond x5 e e)))))
      go true x2 x3 x4 x5 e1 e2 e3 e4 e5 s = ht (eqb-true b 0x54 e1)
      go false true x3 x4 x5 e1 e2 e3 e4 e5 s = hp (eqb-true b 0x50 e2)
      go false false true x4 x5 e1 e2 e3 e4 e5 s = hd (eqb-true b 0x44 e3)
      go false false false true x5 e1 e2 e3 e4 e5 s = hj (eqb-true b 0x4A e4)
      go false false false false true e1 e2 e3 e4 e5 s = he (eqb-true b 0x45 e5)
      go false false false false false e1 e2 e3 e4 e5 s = absurd (omega arith)

  -- a known command that lies within the file is spelled by its bytes
  pub spells_at : (at : ℕ) → 1 ≤ width file at → at + width file at ≤ length file → Spells (entry_at file at) (part file at (width file at))
  spells_at at some =
      first_is (λ w e. at + w ≤ length file → Spells e (part file at w)) (byte at) _ _ _ _ ends
      (λ e le. spells_word 0x54 at le e) (λ e le. spells_word 0x50 at le e) (λ e le. spells_word 0x44 at le e) (λ e le. spells_task at le e)
      (λ e le. unroll 1 at le ∙ ap (λ b. b ∷ []) e) some

  -- one command more
  pub front_more : (at w : ℕ) → take (at + w) file ≡ take at file ++ part file at w
  front_more at w = sym (take-append-drop at (take (at + w) file)) ∙ rw (take-take at (at + w) file (omega arith), drop-take at w file)

pub written_more : (es : List Entry) (e : Entry) (bs cs : List ℕ) → Written es bs → Spells e cs → Written (es ++ e ∷ []) (bs ++ cs)
written_more [] e bs cs w s = (cs, [], rw w (sym (append-nil cs)), s, refl)
written_more (x ∷ es) e bs cs w s =
    (w.0, w.1 ++ cs, ap (λ l. l ++ cs) w.2 ∙ append_assoc w.0 w.1 cs, w.3, written_more es e w.1 cs w.4 s)

pub leads_more : (es : List Entry) (e : Entry) (c z : Content) → Leads c es z → is_end e ≡ false → first_row (plan_rows z e) ≡ None → Leads c (es ++ e ∷ []) (added z e)
leads_more [] e c z l more right = (more, subst (λ x. first_row (plan_rows x e) ≡ None) (sym l) right, ap (λ x. added x e) l)
leads_more (x ∷ es) e c z l more right = (l.0, l.1, leads_more es e (added c x) z l.2 more right)

pub end_is : (e : Entry) → is_end e ≡ true → e ≡ ends
end_is (set_table d) e = absurd (both_ways false refl e)
end_is (set_point p) e = absurd (both_ways false refl e)
end_is (set_delay n) e = absurd (both_ways false refl e)
end_is (set_task name x d l) e = absurd (both_ways false refl e)
end_is ends e = refl

-- the byte that is blamed lies within the file or is its length
pub blamed_within : (file : List ℕ) (at : ℕ) (c : Content) (row : Row) → at ≤ length file → first_row (rows_at file at c) ≡ Some row → blamed row file at ≤ length file
blamed_within file at c NotCommand le e = le
blamed_within file at c EndsEarly le e = omega arith
blamed_within file at c TooSoon le e = le
blamed_within file at c Unfinished le e = le
blamed_within file at c TooMany le e = le
blamed_within file at c OutOfRange le e = le
blamed_within file at c NotRising le e = le
blamed_within file at c Hyperperiod le e = le
blamed_within file at c AfterEnd le e =
    let known : not_command file at ≡ false = grind (arith, nat_tests, e) in
    let whole : ends_early file at ≡ false = grind (arith, nat_tests, e) in
    let s = sized (length file) at (width file at) known whole in
    omega (arith, s.0, s.1)
