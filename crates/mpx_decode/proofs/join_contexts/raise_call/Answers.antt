use Rattle.std.proofs.Common.{◌∙◌, ap, refl, ◌++◌, arith}
use Rattle.std.specs.Cmp.{nat_cmp_total}
use Rattle.std.specs.FinMap.{get}
use Rattle.mpx_board.specs.Parts.{call_between_laws, call_joining, call_laws}
use Rattle.mpx_board.specs.Views.{view_of_calls}
use Rattle.mpx_board.proofs.Setting.{replaced_absent, set_by_swap}
use Rattle.mpx_format.specs.Contexts.{call_posts}
use Rattle.mpx_format.specs.Fields.{call}
use Rattle.mpx_format.proofs.FieldLaws.{call_laws as call_exactly}
use Rattle.mpx_decode.proofs.OneRow.{value_stands}
use Rattle.mpx_decode.proofs.RaisedCalls.{call_stays, held_raised, held_stops, put_raised}
use Rattle.mpx_decode.proofs.Taken.{if_err, if_ok}
use Rattle.mpx_decode.proofs.NearBytes.{read_on}
use Rattle.mpx_decode.proofs.join_contexts.raise_call.Goals as goal

pub put_call-requires : goal.put_call-requires
put_call-requires c = value_stands call (call_posts c.args.version) (c.args.bytes.now ++ c.args.beyond.now) c.in-Ok.call (c.in-Ok.rest.now ++ c.args.beyond.now) (read_on call_exactly c.args.bytes.now c.in-Ok.rest.now c.in-Ok.call (λ i. omega (arith, c.type_inv.bytes i)) c.in-Ok.ensures.read c.args.beyond.now) c.requires

pub raise-raised-requires : goal.raise-raised-requires
raise-raised-requires c = value_stands call (call_posts c.args.version) (c.args.bytes.now ++ c.args.beyond.now) c.in-Ok.call (c.in-Ok.rest.now ++ c.args.beyond.now) (read_on call_exactly c.args.bytes.now c.in-Ok.rest.now c.in-Ok.call (λ i. omega (arith, c.type_inv.bytes i)) c.in-Ok.ensures.read c.args.beyond.now) c.requires

pub returns-in-None-clause-ok : goal.returns-in-None-clause-ok
returns-in-None-clause-ok c =
    let old = view_of_calls c.args.held.now in
    let mid = view_of_calls c.replace.new.self in
    let new = view_of_calls c.put_call.new.held in
    let stays = c.in-None.ensures.new ∙ replaced_absent old.calls c.in-Ok.call _ c.in-None.ensures.old in
    if_ok c.put_call.result _ _
    (λ x g. put_raised (call_posts c.args.version) (c.args.bytes.now ++ c.args.beyond.now) (c.in-Ok.rest.now ++ c.args.beyond.now) c.in-Ok.call (read_on call_exactly c.args.bytes.now c.in-Ok.rest.now c.in-Ok.call (λ i. omega (arith, c.type_inv.bytes i)) c.in-Ok.ensures.read c.args.beyond.now) old new (c.put_call.ensures.dropped ∙ c.in-None.ensures.dropped) call_joining mid c.in-None.ensures.dropped stays c.in-None.ensures.old (x.now ++ c.put_call.new.beyond) g)
    c.put_call.ensures.ok

pub returns-in-None-clause-err : goal.returns-in-None-clause-err
returns-in-None-clause-err c =
    let old = view_of_calls c.args.held.now in
    let new = view_of_calls c.put_call.new.held in
    let stays = c.in-None.ensures.new ∙ replaced_absent old.calls c.in-Ok.call _ c.in-None.ensures.old in
    if_err c.put_call.result
    (λ same. call_stays (call_posts c.args.version) (c.args.bytes.now ++ c.args.beyond.now) call_laws call_between_laws old new c.requires (c.put_call.ensures.dropped ∙ c.in-None.ensures.dropped) (λ q. ap (λ m. get m q) (same ∙ stays)))
    c.put_call.ensures.err

pub returns-in-Some-clause-ok : goal.returns-in-Some-clause-ok
returns-in-Some-clause-ok c =
    let old = view_of_calls c.args.held.now in
    let new = view_of_calls c.replace-in-Some.new.self in
    let set = set_by_swap nat_cmp_total _ _ _ c.in-Ok.call _ _ _ c.in-Some.ensures.old c.in-Some.ensures.new c.replace-in-Some.ensures.new in
    if_ok c.raise-raised.result _ _
    (λ x g. held_raised (call_posts c.args.version) (c.args.bytes.now ++ c.args.beyond.now) (c.in-Ok.rest.now ++ c.args.beyond.now) c.in-Ok.call (read_on call_exactly c.args.bytes.now c.in-Ok.rest.now c.in-Ok.call (λ i. omega (arith, c.type_inv.bytes i)) c.in-Ok.ensures.read c.args.beyond.now) old new (c.replace-in-Some.ensures.dropped ∙ c.in-Some.ensures.dropped) _ _ c.in-Some.ensures.old set call_joining (x.now ++ c.raise-raised.new.beyond) g)
    c.raise-raised.ensures.ok

pub returns-in-Some-clause-err : goal.returns-in-Some-clause-err
returns-in-Some-clause-err c =
    let old = view_of_calls c.args.held.now in
    let new = view_of_calls c.replace-in-Some.new.self in
    let set = set_by_swap nat_cmp_total _ _ _ c.in-Ok.call _ _ _ c.in-Some.ensures.old c.in-Some.ensures.new c.replace-in-Some.ensures.new in
    if_err c.raise-raised.result
    (λ g. held_stops (call_posts c.args.version) (c.args.bytes.now ++ c.args.beyond.now) (c.in-Ok.rest.now ++ c.args.beyond.now) c.in-Ok.call (read_on call_exactly c.args.bytes.now c.in-Ok.rest.now c.in-Ok.call (λ i. omega (arith, c.type_inv.bytes i)) c.in-Ok.ensures.read c.args.beyond.now) old new (c.replace-in-Some.ensures.dropped ∙ c.in-Some.ensures.dropped) _ _ c.in-Some.ensures.old set call_laws call_between_laws g)
    c.raise-raised.ensures.err

pub returns-in_default-clause-err : goal.returns-in_default-clause-err
returns-in_default-clause-err c = call_stays (call_posts c.args.version) (c.args.bytes.now ++ c.args.beyond.now) call_laws call_between_laws (view_of_calls c.args.held.now) (view_of_calls c.args.held.now) c.requires refl (λ q. refl)
