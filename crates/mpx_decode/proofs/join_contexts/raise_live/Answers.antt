use Rattle.std.proofs.Common.{◌++◌, arith}
use Rattle.mpx_board.specs.Parts.{entry_between, entry_joining}
use Rattle.mpx_board.specs.Views.{view_of_lifted}
use Rattle.mpx_format.specs.Contexts.{context}
use Rattle.mpx_decode.proofs.JoinedParts.{dead_stays, live_joined, live_stands, live_stops}
use Rattle.mpx_decode.proofs.NearBytes.{live_laws, read_on}
use Rattle.mpx_decode.proofs.join_contexts.raise_live.Goals as goal

pub raise_context-requires : goal.raise_context-requires
raise_context-requires c = live_stands (context c.args.version) (c.args.bytes.now ++ c.args.beyond.now) c.requires

pub returns-in-Live-clause-ok : goal.returns-in-Live-clause-ok
returns-in-Live-clause-ok c = rw c.in-Live.is (live_joined (context c.args.version) (c.args.bytes.now ++ c.args.beyond.now) c.raise_context.result (λ x. x.now ++ c.raise_context.new.beyond) entry_joining _ _ c.raise_context.ensures.ok)

pub returns-in-Live-clause-err : goal.returns-in-Live-clause-err
returns-in-Live-clause-err c = rw c.in-Live.is (live_stops (context c.args.version) (c.args.bytes.now ++ c.args.beyond.now) c.raise_context.result (λ x. x.now ++ c.raise_context.new.beyond) entry_between _ _ c.raise_context.ensures.err)

-- the taker's is dead, and stays so
pub returns-in-Ok-clause-ok : goal.returns-in-Ok-clause-ok
returns-in-Ok-clause-ok c =
    let told = view_of_lifted c.in-Ok._live in
    rw c.in-Dead.is (record {
      value = told;
      read = read_on (live_laws c.args.version) c.args.bytes.now c.in-Ok.rest.now told (λ i. omega (arith, c.type_inv.bytes i)) c.in-Ok.ensures c.args.beyond.now;
      joined = dead_stays entry_joining told;
    })
