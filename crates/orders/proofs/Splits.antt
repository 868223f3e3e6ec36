-- The words of a line are the parts between its white space, without the empty ones.
use Rattle.std.proofs.Common.{◌≡◌, ℕ, ◌<◌, Bool, true, false, not, ◌==◌, cond, List, [], ◌∷◌, ◌++◌, length, Option, Some, None, Bor, sym, refl, ap, subst, ◌∙◌, append_assoc, append-nil, arith}
use Rattle.std.specs.List.{filter, slice_split, onto_first}
use Rattle.std.specs.Iterator.{AlwaysYields}
use Rattle.std.proofs.lemmas.Bool.{cond-true}
use Rattle.std.proofs.lemmas.Bool.Decides.{nat_tests}
use Rattle.std.proofs.lemmas.Iterator.{YieldsList}
use Rattle.orders.specs.Words.{blank, before, words_after, words_of, BeginsWith}

pub before_some : (w : List ℕ) (ws : List (List ℕ)) → 0 < length w → before w ws ≡ w ∷ ws
before_some [] ws h = let none : ⊥ = omega arith in absurd none
before_some (b ∷ w) ws h = refl

-- a part that is a word
abbrev pub filled : List ℕ → Bool
filled w = not (length w == 0)

before_filter : (w : List ℕ) (ps : List (List ℕ)) → before w (filter filled ps) ≡ filter filled (w ∷ ps)
before_filter [] ps = refl
before_filter (b ∷ w) ps =
    let some : filled (b ∷ w) ≡ true = grind (arith, nat_tests) in
    sym (cond-true (filled (b ∷ w)) ((b ∷ w) ∷ filter filled ps) (filter filled ps) some)

-- the parts of a line that goes on after the bytes w of its first part
with_front : List ℕ → List (List ℕ) → List (List ℕ)
with_front w [] = w ∷ []
with_front w (p ∷ ps) = (w ++ p) ∷ ps

with_front-none : (ps : List (List ℕ)) → filter filled (with_front [] ps) ≡ filter filled ps
unfolding with_front
with_front-none [] = refl
with_front-none (p ∷ ps) = refl

with_front-onto : (w : List ℕ) (b : ℕ) (ps : List (List ℕ)) → with_front (w ++ b ∷ []) ps ≡ with_front w (onto_first b ps)
unfolding with_front
with_front-onto w b [] = refl
with_front-onto w b (p ∷ ps) = ap (λ u. u ∷ ps) (append_assoc w (b ∷ []) p)

parts_step : (t : Bool) (b : ℕ) (w bs : List ℕ) → ((v : List ℕ) → words_after v bs ≡ filter filled (with_front v (slice_split blank bs))) → cond t (before w (words_after [] bs)) (words_after (w ++ b ∷ []) bs) ≡ filter filled (with_front w (cond t ([] ∷ slice_split blank bs) (onto_first b (slice_split blank bs))))
unfolding with_front
parts_step true b w bs ih =
    ap (λ ws. before w ws) (ih [] ∙ with_front-none (slice_split blank bs))
    ∙ before_filter w (slice_split blank bs)
    ∙ sym (ap (λ u. filter filled (u ∷ slice_split blank bs)) (append-nil w))
parts_step false b w bs ih = ih (w ++ b ∷ []) ∙ ap (filter filled) (with_front-onto w b (slice_split blank bs))

parts_after : (bs w : List ℕ) → words_after w bs ≡ filter filled (with_front w (slice_split blank bs))
unfolding with_front
parts_after [] w = before_filter w [] ∙ sym (ap (λ u. filter filled (u ∷ [])) (append-nil w))
parts_after (b ∷ bs) w = parts_step (blank b) b w bs (parts_after bs)

pub words_of-filter : (line : List ℕ) → words_of line ≡ filter filled (slice_split blank line)
words_of-filter line = parts_after line [] ∙ with_front-none (slice_split blank line)

-- calls of an iterator tell what its list begins with
module _ {S : Type 0} (steps : S → Option (Bor (List ℕ)) → S → Type 0) where
  begins_more : (s t : S) (r : Option (Bor (List ℕ))) (ws : List (List ℕ)) (told : List (Option (Bor (List ℕ)))) → AlwaysYields steps (λ w. w.now) s ws → steps s r t → ((vs : List (List ℕ)) → AlwaysYields steps (λ w. w.now) t vs → BeginsWith vs told) → BeginsWith ws (r ∷ told)
  begins_more s t None [] told a k next = refl
  begins_more s t None (w ∷ ws) told a k next = absurd (a.0 t k)
  begins_more s t (Some x) [] told a k next = a x t k
  begins_more s t (Some x) (w ∷ ws) told a k next = let p = a.1 x t k in (p.0, next ws p.1)

  pub begins_four : (line : List ℕ) {s t u v w : S} {a b c d : Option (Bor (List ℕ))} → YieldsList steps (λ x. x.now) s (filter filled (slice_split blank line)) → steps s a t → steps t b u → steps u c v → steps v d w → BeginsWith (words_of line) (a ∷ b ∷ c ∷ d ∷ [])
  begins_four line {s} {t} {u} {v} {w} {a} {b} {c} {d} words at_a at_b at_c at_d =
      subst (λ ws. BeginsWith ws (a ∷ b ∷ c ∷ d ∷ [])) (sym (words_of-filter line))
      (begins_more s t a (filter filled (slice_split blank line)) (b ∷ c ∷ d ∷ []) words.runs at_a
      (λ ws e. begins_more t u b ws (c ∷ d ∷ []) e at_b
      (λ vs f. begins_more u v c vs (d ∷ []) f at_c
      (λ us g. begins_more v w d us [] g at_d (λ ts h. tt)))))
