use Rattle.std.proofs.Common.{◌≤◌, ◌-◌, length, subst, sym}
use Rattle.mpx_rope.proofs.Weaves.{first_place}
use Rattle.mpx_rope.proofs.beyond.near_len.Goals as goal

pub returns-in-len1-up-clause-within : goal.returns-in-len1-up-clause-within
returns-in-len1-up-clause-within c =
    subst (λ place. place - c.args.from ≤ length c.args.own.now) (sym c.place.ensures) (first_place c.args.from c.args.own.now c.piece-item.result c.args.shared.now c.in-len1-up.len_at_least c.piece-item.is c.requires)
