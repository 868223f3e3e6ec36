-- The slots of the examiner's queue: a slot that is filled, and the front of them all. Assumes nothing.
use Rattle.std.specs.Prelude.{◌≡◌, ℕ, zero, suc, ◌<◌, true, List, [], ◌∷◌, length, replicate, Some, None, Option, nat_eq, slice_set, refl}
use Rattle.std.proofs.Common.{sym, ap, ◌∙◌, subst, inl, inr, ⊎_elim, arith}
use Rattle.std.specs.Option.{option_to_list}
use Rattle.std.specs.List.{flat_map}
use Rattle.std.specs.Map.{update}
use Rattle.std.proofs.lemmas.List.{get_or-set_same, get_or-set_other}
use Rattle.std.proofs.lemmas.Map.{update_here, update_apart}
use Rattle.std.proofs.lemmas.Bool.{cases_eq, or_parts}
use Rattle.ready.specs.Jobs.{ahead}
use Rattle.ready.specs.Calls.{Jobs, placed, FrontBy}
use Rattle.ready.specs.Examiners.{slot_of, goes_before, examiners_front}
use Rattle.ready.specs.declared.job.Job.{Job}
use Rattle.ready.specs.Laws.{job_at}
use Rattle.ready.specs.Leads.{In, in_left, in_right, front_by}
use Rattle.ready.specs.Ranks.{before_ranks}

abbrev Each : List (Option Job) → Type 0
Each slots = (t : ℕ) → placed t (slot_of slots t) ≡ true

-- ---- slots that are all empty
pub empty_slot : (n t : ℕ) → slot_of (replicate n None) t ≡ None
empty_slot zero t = refl
empty_slot (suc n) zero = refl
empty_slot (suc n) (suc t) = empty_slot n t

-- ---- a slot that is filled
module _ (slots : List (Option Job)) (k : ℕ) (given : Option Job) (within : k < length slots) where
  pub filled : (t : ℕ) → slot_of (slice_set slots k given) t ≡ update nat_eq (slot_of slots) k given t
  filled t =
      ⊎_elim
      (λ same. subst (λ n. slot_of (slice_set slots k given) n ≡ update nat_eq (slot_of slots) k given n) (sym same) (get_or-set_same slots k given None within ∙ sym (update_here (slot_of slots) k given)))
      (λ other. get_or-set_other slots k t given None other ∙ sym (update_apart (slot_of slots) k given t other))
      (cases_eq t k)

  pub filled_each : Each slots → placed k given ≡ true → Each (slice_set slots k given)
  filled_each each here t =
      ⊎_elim
      (λ same. subst (λ n. placed n (slot_of (slice_set slots k given) n) ≡ true) (sym same) (ap (placed k) (get_or-set_same slots k given None within) ∙ here))
      (λ other. ap (placed t) (get_or-set_other slots k t given None other) ∙ each t)
      (cases_eq t k)

-- ---- the jobs in the slots, as a list
pub held_in : (slots : List (Option Job)) (t : ℕ) (i : Job) → slot_of slots t ≡ Some i → In (flat_map option_to_list slots) i
held_in [] t i e = let z : ◌≡◌ {A = ℕ} 0 1 = cc in absurd (omega arith)
held_in (o ∷ os) zero i e = in_left (option_to_list o) (flat_map option_to_list os) i (subst (λ p. In (option_to_list p) i) (sym e) (inl refl))
held_in (o ∷ os) (suc t) i e = in_right (option_to_list o) (flat_map option_to_list os) i (held_in os t i e)

pub in_held : (slots : List (Option Job)) (i : Job) → In (flat_map option_to_list slots) i → (t : ℕ) × (slot_of slots t ≡ Some i)
in_held [] i h = absurd h
in_held (None ∷ os) i h = let r = in_held os i h in (suc r.0, r.1)
in_held (Some j ∷ os) i (inl e) = (0, ap (λ k. Some k) e)
in_held (Some j ∷ os) i (inr h) = let r = in_held os i h in (suc r.0, r.1)

own_slot : (slots : List (Option Job)) → Each slots → (i : Job) → In (flat_map option_to_list slots) i → slot_of slots i.task ≡ Some i
own_slot slots each i h =
    let r = in_held slots i h in
    ap (slot_of slots) (job_at r.0 (slot_of slots r.0) i (each r.0) r.1).number ∙ r.1

pub examiner_front : (watch : ℕ) (slots : List (Option Job)) → Each slots → FrontBy (goes_before watch) (slot_of slots) (examiners_front watch slots)
examiner_front watch slots each =
    front_by (goes_before watch) (before_ranks watch) (slot_of slots) (flat_map option_to_list slots) (held_in slots) (own_slot slots each)

-- a front under the examiner's rule is one that no job stands ahead of
pub front_ahead : (watch : ℕ) (js : Jobs) (o : Option Job) → FrontBy (goes_before watch) js o → FrontBy ahead js o
front_ahead watch js None f = f
front_ahead watch js (Some j) f = (f.0, λ t i e. (or_parts (ahead i j) _ (f.1 t i e)).0)
