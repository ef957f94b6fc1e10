use Rattle.std.proofs.Common.{◌≡◌, ℕ, min, map, drop, fold}
use Rattle.mpx_floor.specs.Fronts.{front_in, minimum, view_of_numbers}
use Rattle.mpx_floor.proofs.fronts.floor.Given as goal

-- the least of those so far and those of the members that are left is the least of all
abbrev pub invariant-loop-member : goal.invariant-loop-member
invariant-loop-member l =
    let f = front_in (view_of_numbers l.fronts) in
    fold min l.least (map f (drop l.member-index l.member-items)) ≡ minimum (map f l.birth.members)
