-- Harvests one after the other.
use Rattle.std.proofs.Common.{◌≡◌, ℕ, List, refl, subst}
use Rattle.std.specs.Prelude.{is_some, Result}
use Rattle.join_core.specs.declared.memory.OutOfMemory.{OutOfMemory}
use Rattle.mpx_name.specs.Name.{Name}
use Rattle.mpx_num.specs.declared.own.Operation.{Operation}
use Rattle.mpx_node.specs.declared.node.Harvest.{Harvest}
use Rattle.mpx_node.specs.Harvests.{Harvests}
use Rattle.mpx_node.specs.Nodes.{NodeView, next_result}
use Rattle.mpx_request.specs.Later.{IsPending}
use Rattle.mpx_request.specs.Harvested.{Harvested, ComesByHarvests, WasPending, stay, on}
use Rattle.mpx_request.proofs.Steps.{later_more, later_none}

pub harvested_none : (ops : List Operation) (a : NodeView) → Harvested ops a a
harvested_none ops a = stay a a refl

pub harvested_then : (ops : List Operation) (a b c : NodeView) → Harvested ops a b → Harvested ops b c → Harvested ops a c
harvested_then ops a b c (stay x y e) h = subst (λ n. Harvested ops n c) e h
harvested_then ops a b c (on x d y name answer done more) h = on a d c name answer done (harvested_then ops d b c more h)

pub harvested_more : (ops : List Operation) (a b c : NodeView) (name : Name) (answer : Result Harvest OutOfMemory) → Harvested ops a b → Harvests ops (is_some (b.opened name)) name (next_result ops b name) answer b c → Harvested ops a c
harvested_more ops a b c name answer h done = harvested_then ops a b c h (on b c c name answer done (harvested_none ops c))

-- BY THE SAME OPERATIONS

-- what holds by the operations of a later state of a host, holds by those of an earlier one
pub by_first : {H : Type 0} (goes_by : H → List Operation → List Operation) (a b : H) (lent : List Operation) (Holds : List Operation → Type 0) → goes_by b ≡ goes_by a → Holds (goes_by b lent) → Holds (goes_by a lent)
by_first goes_by a b lent Holds same h = subst (λ (by : List Operation → List Operation). Holds (by lent)) same h

-- WHAT WAS PENDING ON THE WAY

no_harvests : (ops : List Operation) (a : NodeView) → ComesByHarvests ops a a
no_harvests ops a = record { later = later_none a; harvests = harvested_none ops a }

pub still_pending : (ops : List Operation) (a b c : NodeView) (name : Name) (call : ℕ) → WasPending ops a b name call → ComesByHarvests ops b c → WasPending ops a c name call
still_pending ops a b c name call w more = record {
  moment = w.moment;
  after = w.after;
  before = record { later = later_more w.moment b c w.before.later more.later; harvests = harvested_then ops w.moment b c w.before.harvests more.harvests };
  pending = w.pending;
}

pub pending_now : (ops : List Operation) (a b : NodeView) (name : Name) (call : ℕ) → ComesByHarvests ops a b → IsPending b name call → WasPending ops a b name call
pending_now ops a b name call since p = record { moment = b; after = since; before = no_harvests ops b; pending = p }
