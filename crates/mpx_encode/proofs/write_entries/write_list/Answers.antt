use Rattle.std.proofs.Common.{◌≡◌, ◌++◌, rules}
use Rattle.mpx_encode.proofs.Loops.{holds_at, written_more}
use Rattle.mpx_encode.proofs.write_entries.write_list.Goals as goal

pub write-requires : goal.write-requires
write-requires g c = holds_at g.K.WriteKey.format.fits c.args.list.now c.loop-key.key-index c.key-item.result c.loop-key-test.true c.key-item.is c.requires

pub loop-key-preserved : goal.loop-key-preserved
loop-key-preserved g c =
    let s = g.K.WriteKey.format.spelling in
    let added : c.write.new.out ≡ c.loop-key.out ++ s c.key-item.result = search rules in
    written_more s c.args.list.now c.loop-key.key-index c.key-item.result c.args.out.now c.loop-key.out c.write.new.out c.loop-key-test.true c.key-item.is c.loop-key.invariant added
