use Rattle.std.proofs.Common.{◌++◌, ap, sym, ◌∙◌, subst}
use Rattle.join_core.specs.laws.Between.{old_or_joined-laws}
use Rattle.join_core.specs.Flat.{flat_joining}
use Rattle.join_core.specs.laws.Flat.{flat_laws}
use Rattle.join_core.specs.FlatSeen.{flat_view}
use Rattle.join_core.specs.Joins.{old_or_joined}
use Rattle.join_nest.proofs.Fronts.{on_err}
use Rattle.mpx_post.specs.Equality.{given_equality, same_given}
use Rattle.mpx_format.specs.Contexts.{posted}
use Rattle.mpx_decode.specs.Raising.{StandsInFront}
use Rattle.mpx_decode.proofs.Taken.{read_joined, read_stops, same_joined, stops_at_once}
use Rattle.mpx_decode.proofs.join_posts.FlatPostWireJoin.raise.Goals as goal

pub returns-in-Some-clause-ok : goal.returns-in-Some-clause-ok
returns-in-Some-clause-ok c = same_joined (posted c.args.version) (c.args.bytes.now ++ c.args.beyond.now) (c.in-Some.rest.now ++ c.behind_told.new.beyond) (flat_view (λ p. p) c.args.self.now) c.in-Some.ensures.some (flat_laws given_equality)

pub returns-in-Err-clause-err : goal.returns-in-Err-clause-err
returns-in-Err-clause-err c =
    stops_at_once (posted c.args.version) (old_or_joined (flat_joining same_given)) (c.args.bytes.now ++ c.args.beyond.now) (flat_view (λ p. p) c.args.self.now) (λ b. (old_or_joined-laws (flat_laws given_equality)).old (flat_view (λ p. p) c.args.self.now) b) c.requires

pub returns-in_err-join_in-in-Ok-clause-err : goal.returns-in_err-join_in-in-Ok-clause-err
returns-in_err-join_in-in-Ok-clause-err c =
    let read = ap (λ l. (posted c.args.version).read (c.args.bytes.now ++ l)) (sym c.in-None.ensures.none) ∙ c.in-Ok.ensures.read in
    on_err c.from_residual.result (read_stops (posted c.args.version) (c.args.bytes.now ++ c.args.beyond.now) (c.in-Ok.rest.now ++ c.read_new.new.beyond) (flat_view (λ p. p) c.in-Ok.told) read c.in_err-join_in-in-Ok.ensures.err)

pub returns-in_ok-join_in-in-Ok-clause-ok : goal.returns-in_ok-join_in-in-Ok-clause-ok
returns-in_ok-join_in-in-Ok-clause-ok c =
    let read = ap (λ l. (posted c.args.version).read (c.args.bytes.now ++ l)) (sym c.in-None.ensures.none) ∙ c.in-Ok.ensures.read in
    read_joined (posted c.args.version) (c.args.bytes.now ++ c.args.beyond.now) (c.in-Ok.rest.now ++ c.read_new.new.beyond) (flat_view (λ p. p) c.in-Ok.told) read c.in_ok-join_in-in-Ok.ensures.ok

pub read_new-requires : goal.read_new-requires
read_new-requires c = subst (λ l. StandsInFront (posted c.args.version) (c.args.bytes.now ++ l)) (sym c.in-None.ensures.none) c.requires
