use Rattle.std.proofs.Common.{◌≡◌, ◌<◌, ℕ, List, All, false, length, sym}
use Rattle.std.specs.Prelude.{Option}
use Rattle.std.proofs.lemmas.List.Elements.{All-same}
use Rattle.mpx_group.specs.Group.{has_twice}
use Rattle.mpx_group.proofs.Members.{IsGroup-from}
use Rattle.mpx_birth.specs.Births.{IsBirth, fits_topology}
use Rattle.mpx_birth.specs.Topologies.{TopologyView}
use Rattle.mpx_birth.proofs.Asked.{birth-spelled}
use Rattle.mpx_birth.proofs.birth.Birth.from_parts.Goals as goal

-- of members as they were read
kept : (members read : List ℕ) (topology : Option TopologyView) → 0 < length members → has_twice members ≡ false → fits_topology (length members) topology → read ≡ members → All (λ p. p < 64) read
    → IsBirth (record { members = members; topology = topology })
kept members read topology some distinct fits is below = record {
  some = some;
  group = IsGroup-from members distinct (All-same (λ p. p < 64) members read (sym is) below);
  topology = fits;
}

pub returns-in-Ok-clause-kept : goal.returns-in-Ok-clause-kept
returns-in-Ok-clause-kept c =
    birth-spelled _ (kept c.args.members.items c.deref.result.now c.args.topology c.requires.some c.requires.distinct c.requires.topology c.deref.ensures.value c.are_below.ensures)

pub returns-in-Err-clause-kept : goal.returns-in-Err-clause-kept
returns-in-Err-clause-kept c =
    birth-spelled _ (kept c.args.members.items c.deref.result.now c.args.topology c.requires.some c.requires.distinct c.requires.topology c.deref.ensures.value c.are_below.ensures)

pub invariant_of-result : goal.invariant_of-result
invariant_of-result c =
    rw c.in-Ok.ensures.ok
    (kept c.args.members.items c.deref.result.now c.args.topology c.requires.some c.requires.distinct c.requires.topology c.deref.ensures.value c.are_below.ensures)
