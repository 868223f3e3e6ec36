-- A plan by what it holds, and the plan that has read no file. Assumes nothing.
use Rattle.std.specs.Prelude.{[], ◌∷◌}
use Rattle.plan.specs.Content.{Content}
use Rattle.plan.specs.Drafts.{drafted}
use Rattle.plan.specs.declared.model.Plan.{Plan}

abbrev pub content : Plan → Content
content p = drafted p.draft

-- one table of duration 1 with one task, named ----
abbrev pub unread : Content
unread = record {
  tables = record { duration = 1 } ∷ [];
  points = record { table = 0; position = 0 } ∷ [];
  tasks = record { point = 0; name = 0x2D ∷ 0x2D ∷ 0x2D ∷ 0x2D ∷ []; execution = 1; deadline = 1; priority = 0 } ∷ [];
}
