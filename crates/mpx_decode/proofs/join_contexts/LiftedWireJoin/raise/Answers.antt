use Rattle.std.proofs.Common.{IfOk, OnErr, subst, sym, ◌++◌, arith}
use Rattle.join_nest.specs.Lift.{dead}
use Rattle.mpx_board.specs.Parts.{entry_between, entry_joining, lifted_between, lifted_between_laws, lifted_joining}
use Rattle.mpx_board.specs.Views.{view_of_lifted}
use Rattle.mpx_format.specs.Contexts.{code_of_lift, context, lifted}
use Rattle.mpx_format.proofs.FormatLaws.{byte_laws}
use Rattle.mpx_decode.specs.Raising.{JoinsFront, StandsInFront, StopsBetween}
use Rattle.mpx_decode.proofs.JoinedParts.{dies, lifted_joined, lifted_stops, live_behind, one_form, two_form}
use Rattle.mpx_decode.proofs.NearBytes.{read_on}
use Rattle.mpx_decode.proofs.Taken.{stops_at_once}
use Rattle.mpx_decode.proofs.join_contexts.LiftedWireJoin.raise.Goals as goal

pub raise_live-requires : goal.raise_live-requires
raise_live-requires c = subst (λ f. StandsInFront f (c.args.bytes.now ++ c.args.beyond.now)) (one_form c.args.version c.in-One.is) c.requires

pub returns-in-One-clause-ok : goal.returns-in-One-clause-ok
returns-in-One-clause-ok c =
    subst (λ f. IfOk c.raise_live.result (λ x. JoinsFront f lifted_joining (c.args.bytes.now ++ c.args.beyond.now) (x.now ++ c.raise_live.new.beyond) (view_of_lifted c.args.self.now) (view_of_lifted c.raise_live.new.known))) (sym (one_form c.args.version c.in-One.is)) c.raise_live.ensures.ok

pub returns-in-One-clause-err : goal.returns-in-One-clause-err
returns-in-One-clause-err c =
    subst (λ f. OnErr c.raise_live.result (StopsBetween f lifted_between (c.args.bytes.now ++ c.args.beyond.now) (view_of_lifted c.args.self.now) (view_of_lifted c.raise_live.new.known))) (sym (one_form c.args.version c.in-One.is)) c.raise_live.ensures.err

pub raise_live-requires-then-form-eq0 : goal.raise_live-requires-then-form-eq0
raise_live-requires-then-form-eq0 c =
    live_behind (context c.args.version) code_of_lift (c.args.bytes.now ++ c.args.beyond.now) c.in-Ok.form (c.in-Ok.rest.now ++ c.args.beyond.now) (read_on byte_laws c.args.bytes.now c.in-Ok.rest.now c.in-Ok.form (λ i. omega (arith, c.type_inv.bytes i)) c.in-Ok.ensures.gives c.args.beyond.now) (subst (λ f. StandsInFront f (c.args.bytes.now ++ c.args.beyond.now)) (two_form c.args.version c.in-Two.is) c.requires) c.if-form-eq0.true

pub returns-then-form-eq0-clause-ok : goal.returns-then-form-eq0-clause-ok
returns-then-form-eq0-clause-ok c =
    let two = two_form c.args.version c.in-Two.is in
    subst (λ f. IfOk c.raise_live-then-form-eq0.result (λ x. JoinsFront f lifted_joining (c.args.bytes.now ++ c.args.beyond.now) (x.now ++ c.raise_live-then-form-eq0.new.beyond) (view_of_lifted c.args.self.now) (view_of_lifted c.raise_live-then-form-eq0.new.known))) (sym two)
    (lifted_joined (context c.args.version) code_of_lift (c.args.bytes.now ++ c.args.beyond.now) c.in-Ok.form (c.in-Ok.rest.now ++ c.args.beyond.now) (read_on byte_laws c.args.bytes.now c.in-Ok.rest.now c.in-Ok.form (λ i. omega (arith, c.type_inv.bytes i)) c.in-Ok.ensures.gives c.args.beyond.now) (subst (λ f. StandsInFront f (c.args.bytes.now ++ c.args.beyond.now)) two c.requires)
    c.raise_live-then-form-eq0.result (λ x. x.now ++ c.raise_live-then-form-eq0.new.beyond) c.if-form-eq0.true entry_joining _ _ c.raise_live-then-form-eq0.ensures.ok)

pub returns-then-form-eq0-clause-err : goal.returns-then-form-eq0-clause-err
returns-then-form-eq0-clause-err c =
    let two = two_form c.args.version c.in-Two.is in
    subst (λ f. OnErr c.raise_live-then-form-eq0.result (StopsBetween f lifted_between (c.args.bytes.now ++ c.args.beyond.now) (view_of_lifted c.args.self.now) (view_of_lifted c.raise_live-then-form-eq0.new.known))) (sym two)
    (lifted_stops (context c.args.version) code_of_lift (c.args.bytes.now ++ c.args.beyond.now) c.in-Ok.form (c.in-Ok.rest.now ++ c.args.beyond.now) (read_on byte_laws c.args.bytes.now c.in-Ok.rest.now c.in-Ok.form (λ i. omega (arith, c.type_inv.bytes i)) c.in-Ok.ensures.gives c.args.beyond.now) (subst (λ f. StandsInFront f (c.args.bytes.now ++ c.args.beyond.now)) two c.requires)
    c.raise_live-then-form-eq0.result (λ x. x.now ++ c.raise_live-then-form-eq0.new.beyond) c.if-form-eq0.true entry_between _ _ c.raise_live-then-form-eq0.ensures.err)

pub returns-else-form-eq0-clause-ok : goal.returns-else-form-eq0-clause-ok
returns-else-form-eq0-clause-ok c =
    let two = two_form c.args.version c.in-Two.is in
    rw c.bury.ensures (subst (λ f. JoinsFront f lifted_joining (c.args.bytes.now ++ c.args.beyond.now) (c.in-Ok.rest.now ++ c.args.beyond.now) (view_of_lifted c.args.self.now) dead) (sym two)
    (dies (context c.args.version) code_of_lift (c.args.bytes.now ++ c.args.beyond.now) c.in-Ok.form (c.in-Ok.rest.now ++ c.args.beyond.now) (read_on byte_laws c.args.bytes.now c.in-Ok.rest.now c.in-Ok.form (λ i. omega (arith, c.type_inv.bytes i)) c.in-Ok.ensures.gives c.args.beyond.now) (subst (λ f. StandsInFront f (c.args.bytes.now ++ c.args.beyond.now)) two c.requires) entry_joining c.if-form-eq0.false (view_of_lifted c.args.self.now)))

pub returns-in-Err-clause-err : goal.returns-in-Err-clause-err
returns-in-Err-clause-err c =
    let old = view_of_lifted c.args.self.now in
    stops_at_once (lifted c.args.version) lifted_between (c.args.bytes.now ++ c.args.beyond.now) old (lifted_between_laws.old old) c.requires
