use Rattle.std.proofs.Common.{◌≡◌, true, length, Some, None, refl, sym, ◌∙◌, rules}
use Rattle.mpx_encode.specs.Room.{room_left}
use Rattle.mpx_encode.proofs.Rooms.{room_nothing}
use Rattle.mpx_encode.proofs.Loops.{room_more, room_ends, passed_more}
use Rattle.mpx_encode.proofs.write_entries.room_after_list.Goals as goal

pub loop-key-init : goal.loop-key-init
loop-key-init g c = record { left = room_nothing c.args.room; fits = refl }

pub returns-in_err-left-clause-value : goal.returns-in_err-left-clause-value
returns-in_err-left-clause-value g c =
    let x = c.key-item.result in
    let e : room_left (length (g.K.WriteKey.format.spelling x)) c.loop-key.left ≡ None = search rules in
    let none : c.from_residual.result ≡ None = search rules in
    none ∙ sym (room_ends g.K.WriteKey.format.spelling c.args.list.now c.loop-key.key-index x c.args.room c.loop-key.left c.loop-key-test.true c.key-item.is c.loop-key.invariant.left e)

pub loop-key-preserved : goal.loop-key-preserved
loop-key-preserved g c =
    let x = c.key-item.result in
    let e : room_left (length (g.K.WriteKey.format.spelling x)) c.loop-key.left ≡ Some c.in_ok-left.left = search rules in
    let f : g.K.WriteKey.format.fits x ≡ true = search rules in
    record {
      left = room_more g.K.WriteKey.format.spelling c.args.list.now c.loop-key.key-index x c.args.room c.loop-key.left c.in_ok-left.left c.loop-key-test.true c.key-item.is c.loop-key.invariant.left e;
      fits = passed_more g.K.WriteKey.format.fits c.args.list.now c.loop-key.key-index x c.loop-key-test.true c.key-item.is c.loop-key.invariant.fits f;
    }
