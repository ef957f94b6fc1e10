use Rattle.std.proofs.Common.{rules}
use Rattle.std.proofs.lemmas.Fn.{always_returns_same}
use Rattle.join_nest.proofs.Places.{placed_found, placed_absent, holds}
use Rattle.join_nest.proofs.entries.place_of_key.Goals as goal

-- the closure compares an entry's key with the key
pub returns-clause-found : goal.returns-clause-found
returns-clause-found g c =
    let facts = c.binary_search_by.ensures in
    let by_key = facts.position (λ e. g.K.Ord.cmp e.0 c.args.key.now) (always_returns_same _ _ _ (λ a r h called. search rules)) in
    placed_found g.met.K.Ord.total c.args.key.now c.args.entries.now c.binary_search_by.result facts.bound by_key

pub returns-clause-absent : goal.returns-clause-absent
returns-clause-absent g c =
    let facts = c.binary_search_by.ensures in
    let by_key = facts.position (λ e. g.K.Ord.cmp e.0 c.args.key.now) (always_returns_same _ _ _ (λ a r h called. search rules)) in
    placed_absent g.met.K.Ord.total c.args.key.now c.args.entries.now c.binary_search_by.result (holds _ c.requires) facts.bound by_key
