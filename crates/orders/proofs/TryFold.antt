-- What `try_fold` into an `Option` gives on a list that an iterator yields, with a closure that keeps nothing.
use Rattle.std.proofs.Common.{◌≡◌, List, [], ◌∷◌, Option, None, Some, MatchOption, option_and_then, ControlFlow, sym, ap, subst, ◌∙◌}
use Rattle.std.specs.Iterator.{AlwaysYields, Yields, TryFoldTurn, TryFoldsItems}
use Rattle.std.specs.ControlFlow.{continue_value}
use Rattle.std.specs.Fn.{Called}
use Rattle.std.specs.List.{FoldsTo}
use denote.Param.Members.{Mut}
use Rattle.std.proofs.lemmas.Iterator.{YieldsList}

-- the fold of a list by steps that may give up
abbrev pub try_fold : {B C : Type 0} → (C → B → Option C) → C → List B → Option C
try_fold step a [] = Some a
try_fold step a (y ∷ ys) = option_and_then (λ b. try_fold step b ys) (step a y)

module _ {S A B C F : Type 0} (E : Type 0) (steps : S → Option A → S → Type 0) (v : A → B) (g : Mut F (C × (A × Unit {0})) (Option C)) (step : C → B → Option C) (f : F)
    (k : (a : C) (x : A) (o : Option C) (q : F) → Called g f (a, (x, tt)) o q → (q ≡ f) × (o ≡ step a (v x))) where
  abbrev Turn : F × C → A → F × C → Type 0
  Turn = TryFoldTurn g (λ o (c : ControlFlow E C). o ≡ continue_value c)

  -- how the calls end, with the total b
  abbrev Ends : Option C → F → C → Option A → Type 0
  Ends r q b o = MatchOption o (r ≡ Some b) (λ x. (w : Option C) × (h : F) × (e : E) × Called g q (b, (x, tt)) w h × (w ≡ None) × (r ≡ None))

  at_end : (o : Option A) (ys : List B) (a : C) (r : Option C) (s u : S) → AlwaysYields steps v s ys → steps s o u → Ends r f a o → r ≡ try_fold step a ys
  at_end None [] a r s u e p h = h
  at_end None (y ∷ ys) a r s u e p h = absurd (e.0 u p)
  at_end (Some x) [] a r s u e p h = absurd (e x u p)
  at_end (Some x) (y ∷ ys) a r s u e p h =
      h.5 ∙ ap (option_and_then (λ b. try_fold step b ys)) (sym h.4 ∙ (k a x h.0 h.1 h.3).1 ∙ ap (step a) (e.1 x u p).0)

  tried : (xs : List A) (o : Option A) (ys : List B) (a : C) (r : Option C) (s t u : S) (q : F × C) → AlwaysYields steps v s ys → Yields steps s xs t → steps t o u → FoldsTo Turn (f, a) xs q → Ends r q.0 q.1 o → r ≡ try_fold step a ys
  tried [] o ys a r s t u q e y p c h =
      at_end o ys a r s u e (subst (λ z. steps z o u) (sym y) p) (subst (λ (z : F × C). Ends r z.0 z.1 o) (sym c) h)
  tried (x ∷ xs) o [] a r s t u q e y p c h = absurd (e x y.0 y.1)
  tried (x ∷ xs) o (z ∷ ys) a r s t u q e y p c h =
      let m = e.1 x y.0 y.1 in
      let n = k a x c.1.0 c.0.0 c.1.1 in
      tried xs o ys c.0.1 r y.0 t u q m.1 y.2 p (subst (λ (w : F × C). FoldsTo Turn w xs q) {x = c.0} {y = (f, c.0.1)} (λ i. (n.0 i, c.0.1)) c.2) h
      ∙ ap (option_and_then (λ b. try_fold step b ys)) (sym c.1.2 ∙ n.1 ∙ ap (step a) m.0)

pub try_fold_from_yields_List : {S A B C F E : Type 0} {steps : S → Option A → S → Type 0} {v : A → B} {s : S} {all : List B} (u : S) (g : Mut F (C × (A × Unit {0})) (Option C)) (step : C → B → Option C) {f : F} (init : C) (r : Option C)
    → TryFoldsItems steps g (λ o (c : ControlFlow E C). o ≡ continue_value c) (λ _ o. o ≡ None) s f init r u → YieldsList steps v s all
    → ((a : C) (x : A) (o : Option C) (q : F) → Called g f (a, (x, tt)) o q → (q ≡ f) × (o ≡ step a (v x))) → r ≡ try_fold step init all
try_fold_from_yields_List {S} {A} {B} {C} {F} {E} {steps} {v} {s} {all} u g step {f} init r d e k =
    tried E steps v g step f k d.0 d.1 all init r s d.4.0 u (d.2, d.3) e.runs d.4.1 d.4.2 d.5 d.6
