-- An overloaded plan whose tables all turn has a backlog that grows past all that its tasks can hold; so a job is late. Assumes nothing.
use Rattle.std.proofs.Common.{◌≡◌, ℕ, suc, ◌+◌, ◌*◌, ◌/◌, ◌<◌, ◌≤◌, sym, ap, ◌∙◌, ⊎_elim, mul_assoc, mul_comm, mul-le-mul_left, zero-add, mul-suc, arith}
use Rattle.theory.specs.Counting.{total}
use Rattle.theory.specs.Plans.{Plan, Lawful, period, work}
use Rattle.theory.specs.Runs.{Run, Rounds, Serves, Turns}
use Rattle.theory.specs.Theorems.{Overrun}
use Rattle.theory.proofs.Sums.{total_cong, total_mono, total_scale, total_one}
use Rattle.theory.proofs.Shares.{share_all}
use Rattle.theory.proofs.Reaches.{hits_hyper, work_is}
use Rattle.theory.proofs.Backlog.{Clear, weigh_within, backlog, fresh, lower_sum, fresh_sum}
use Rattle.theory.proofs.Jobs.{service_drains_lem, serves_less, left_within, clear_unless_late, late_decided}
use Rattle.theory.proofs.Attained.{came_as}

module _ (p : Plan) (r : Run) (lawful : Lawful p) (heavy : p.hyper < work p) (rounds : Rounds p r) (c : ℕ) (serves : Serves p r (c * p.hyper)) (turns : Turns p r 0 (λ i. 0) (c * p.hyper)) (clear : Clear p r (c * p.hyper)) where
  -- more than any task's priority number: every job belongs to the backlog
  level : ℕ
  level = suc (total p.tasks p.pr)

  -- c hyperperiods bring c times the work
  brought : total (c * p.hyper) (λ j. fresh p level 0 r (0 + j)) ≡ c * work p
  unfolding level
  brought =
      fresh_sum p level 0 r 0 (c * p.hyper)
      ∙ total_cong p.tasks _ (λ k. c * (p.cost k * (p.hyper / period p k))) (λ k lt.
      ap (λ v. p.cost k * v) (share_all p level k _ _ (omega (arith, total_one p.tasks p.pr k lt)) ∙ came_as p r lawful rounds 0 (λ i. 0) (c * p.hyper) turns k (c * p.hyper) lt (omega arith) ∙ hits_hyper p lawful (λ i. 0) k c lt)
      ∙ sym (mul_assoc (p.cost k) c (p.hyper / period p k)) ∙ ap (λ v. v * (p.hyper / period p k)) (mul_comm (p.cost k) c) ∙ mul_assoc c (p.cost k) (p.hyper / period p k))
      ∙ total_scale p.tasks c (λ k. p.cost k * (p.hyper / period p k))
      ∙ ap (λ v. c * v) (sym (work_is p lawful))

  -- but no more than all execution times is ever held
  few : c ≤ total p.tasks p.cost
  few =
      let m = c * p.hyper in
      let drains = service_drains_lem p r m serves in
      let low = lower_sum p level 0 r m serves clear 0 m (omega arith) in
      let held : backlog p level 0 r m ≤ total p.tasks p.cost = total_mono p.tasks _ _ (λ k lt.
      omega (arith, weigh_within p level 0 k (r.left m k) (r.since m k), left_within p r m drains m k (omega arith) lt)) in
      let grows = mul-le-mul_left {m = suc p.hyper} {n = work p} c heavy in
      omega (arith, low, brought, held, grows, mul-suc c p.hyper, ap (backlog p level 0 r) (zero-add m))

pub overrun : Overrun
overrun p r n lawful heavy rounds serves turns fits =
    let c = total p.tasks p.cost + 1 in
    let m = c * p.hyper in
    let now = serves_less p r m n fits serves in
    ⊎_elim
    (λ some. some)
    (λ none.
    let clear : Clear p r m = λ τ k lt kl. clear_unless_late p r m (service_drains_lem p r m now) lawful rounds none k τ kl (omega arith) in
    absurd (omega (arith, few p r lawful heavy rounds c now turns clear)))
    (late_decided p r m)
