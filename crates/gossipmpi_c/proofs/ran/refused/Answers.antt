use Rattle.std.proofs.Common.{[], Some, ap, refl, subst}
use Rattle.clap.specs.Words.{kind_of}
use Rattle.mpx_program.specs.Jobs.{IsRefused, Tells}
use Rattle.gossipmpi_c.proofs.ran.refused.Goals as goal

pub returns : goal.returns
returns c options script asks =
    let told = subst (λ old. IsRefused (kind_of c.args.why.now) c.refuse-exit.result.status (Tells (Some old) (Some c.refuse-exit.new.err.items) c.refuse-exit.result.told)) c.new-said.ensures.items c.refuse-exit.ensures in
    record {
      left = script;
      refuses = record {
        why = kind_of c.args.why.now;
        asks = asks.0;
        kinds = asks.1;
        refused = subst (λ told. IsRefused (kind_of c.args.why.now) c.refuse-exit.result.status (Tells (Some []) (Some c.refuse-exit.new.err.items) told)) (c.is_starved.ensures c.if-is_starved.false) told;
        unread = refl;
        unwritten = ap Some c.new.ensures.items;
      };
    }
