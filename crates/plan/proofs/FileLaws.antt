-- What every file is, read to its end or to its first fault. Assumes nothing.
use Rattle.std.proofs.Common.{◌≡◌, ℕ, ◌+◌, ◌≤◌, true, false, List, [], ◌∷◌, ◌++◌, length, take, drop, None, Err, sym, refl, ◌∙◌, subst, arith, take-append-drop}
use Rattle.std.proofs.lemmas.List.{take_all, length-take-le}
use Rattle.std.proofs.lemmas.Bool.{ltb-false}
use Rattle.plan.specs.declared.faults.Row.{Row}
use Rattle.plan.specs.declared.faults.Fault.{Fault}
use Rattle.plan.specs.declared.faults.Fault.TheVariants.{At, Memory}
use Rattle.plan.specs.Content.{Content}
use Rattle.plan.specs.Rules.{lawful}
use Rattle.plan.specs.Entries.{Entry, ends, blank, first_row, plan_rows, added}
use Rattle.plan.specs.File.{width, entry_at, is_end, rows_at, after_end, sets, blames, meaning}
use Rattle.plan.specs.Laws.{Written, Leads, Whole, Blame, Told}
use Rattle.plan.specs.declared.drafts.Draft.{Draft}
use Rattle.plan.specs.Drafts.{Filled}
use Rattle.plan.proofs.RowOrder.{right_from, fine_from}
use Rattle.plan.proofs.Walk.{Comes, walked}
use Rattle.plan.proofs.Setting.{Partial, partial_blank, keeps, finishes}
use Rattle.plan.proofs.Spelling.{spells_at, front_more, written_more, leads_more, end_is, blamed_within}

module _ (file : List ℕ) where
  -- a place of the file that right commands lead to, with what they set down
  pub record Reached (at : ℕ) (c : Content) : Type 0 where
    pub inside : at ≤ length file
    pub partial : Partial c
    pub entries : List Entry
    pub written : Written entries (take at file)
    pub leads : Leads blank entries c

  begins : Reached 0 blank
  begins = record { inside = omega arith; partial = partial_blank; entries = []; written = refl; leads = refl }

  goes_on : (at : ℕ) (c : Content) → Reached at c → first_row (rows_at file at c) ≡ None → is_end (entry_at file at) ≡ false → Reached (at + width file at) (added c (entry_at file at))
  goes_on at c h none more =
      let r = right_from file at c none in
      let e = entry_at file at in
      record {
        inside = r.room;
        partial = keeps c h.partial e (fine_from c e r.plan);
        entries = h.entries ++ e ∷ [];
        written = rw (front_more file at (width file at)) (written_more h.entries e _ _ h.written (spells_at file at r.wide r.room));
        leads = leads_more h.entries e blank c h.leads more r.plan;
      }

  comes : Comes file Reached (meaning file)
  comes = walked file Reached (λ at c h. h.inside) goes_on begins

  -- what a readable file sets down keeps the rules
  pub sets_lawful : (c : Content) → meaning file ≡ sets c → lawful c ≡ true
  sets_lawful c e =
      let h = subst (Comes file Reached) e comes in
      let r = right_from file h.0 c h.2 in
      finishes c h.1.partial (fine_from c ends (subst (λ x. first_row (plan_rows c x) ≡ None) (end_is _ h.3) r.plan))

  pub sets_whole : (c : Content) → meaning file ≡ sets c → Whole file c
  sets_whole c e =
      let h = subst (Comes file Reached) e comes in
      let at = h.0 in
      let r = right_from file at c h.2 in
      let is : entry_at file at ≡ ends = end_is _ h.3 in
      let last : at + width file at ≡ length file = ends_there at is r.last r.wide r.room in
      record {
        entries = h.1.entries;
        written = subst (Written (h.1.entries ++ ends ∷ [])) (sym (front_more file at (width file at)) ∙ take_all _ file (omega (arith, last)))
            (written_more h.1.entries ends _ _ h.1.written (rw is at (spells_at file at r.wide r.room)));
        leads = h.1.leads;
        right = subst (λ x. first_row (plan_rows c x) ≡ None) is r.plan;
      }
    where
      ends_there : (at : ℕ) → entry_at file at ≡ ends → after_end file at ≡ false → 1 ≤ width file at → at + width file at ≤ length file → at + width file at ≡ length file
      ends_there at is last wide room = omega (arith, wide, room, ltb-false (at + 1) (length file) (rw is at last))

  pub blames_blame : (row : Row) (byte : ℕ) → meaning file ≡ blames row byte → Blame file row byte
  blames_blame row byte e =
      let h = subst (Comes file Reached) e comes in
      let at = h.0 in
      let long : length (take at file) ≡ at = length-take-le at file h.2.inside in
      record {
        entries = h.2.entries;
        front = take at file;
        rest = drop at file;
        split = sym (take-append-drop at file);
        written = h.2.written;
        sofar = h.1;
        leads = h.2.leads;
        breaks = rw long h.3;
        place = rw long h.4;
        within = rw h.4 (blamed_within file at h.1 row h.2.inside h.3);
      }

  -- a fault, and want of memory, tell of the file what they have to
  pub fails : (c : Content) (d : Draft) (f : Fault) → Filled (meaning file) (Err f) d → Told file (Err f) c
  fails c d (At row byte) h = blames_blame row byte h
  fails c d Memory h = tt
