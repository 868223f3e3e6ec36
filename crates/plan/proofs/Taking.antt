-- What the code that takes commands tells, turned into the meaning of the file. Assumes nothing.
use Rattle.std.proofs.Common.{◌≡◌, ℕ, List, Ok, Err, sym, ◌∙◌}
use Rattle.plan.specs.declared.commands.Placed.{Placed}
use Rattle.plan.specs.declared.drafts.Draft.{Draft}
use Rattle.plan.specs.declared.faults.Fault.{Fault}
use Rattle.plan.specs.declared.faults.Fault.TheVariants.{At, Memory}
use Rattle.plan.specs.declared.reader.Reader.{Reader}
use Rattle.plan.specs.Content.{Content}
use Rattle.plan.specs.File.{meaning}
use Rattle.plan.specs.Readers.{bytes, Found}
use Rattle.plan.specs.Drafts.{drafted, Added, On, Ended, Stepped, Filled}
use Rattle.plan.proofs.RowOrder.{plan_row}
use Rattle.plan.proofs.Walk.{onward, onward_fault, onward_end, onward_more}

pub add_fails : (c : Content) (s : Reader) (p : Placed) (f : Fault) (d : Draft) (t u : Reader) → Found s p t → Added c p (Err f) d → Stepped c s (Err f) d u
add_fails c s p (At row byte) d t u h a =
    let r = plan_row (bytes s) s.place c row h.known h.whole (rw h.says at a.0) in
    (r.0, a.1 ∙ h.at ∙ r.1)
add_fails c s p Memory d t u h a = tt

module _ (file : List ℕ) (c : Content) (s : Reader) (same : bytes s ≡ file) (so_far : onward file s.place c ≡ meaning file) where
  pub file_fails : (f : Fault) (d : Draft) (t : Reader) → Stepped c s (Err f) d t → Filled (meaning file) (Err f) d
  file_fails (At row byte) d t h = let e = rw same at h in sym so_far ∙ onward_fault file s.place c row e.0 ∙ rw e.1
  file_fails Memory d t h = tt

  pub file_ends : (d : Draft) → Ended c s d → Filled (meaning file) (Ok tt) d
  file_ends d h = sym so_far ∙ onward_end file s.place c (rw same at h.right) (rw same at h.last) ∙ rw h.same

  pub file_goes_on : (d : Draft) (t : Reader) → On c s d t → (bytes t ≡ file) × (onward file t.place (drafted d) ≡ meaning file)
  file_goes_on d t h =
      let m = onward_more file s.place c (rw same at h.right) (rw same at h.more) in
      (h.moved.same ∙ same, rw (h.moved.on, h.adds, same) (sym m ∙ so_far))
