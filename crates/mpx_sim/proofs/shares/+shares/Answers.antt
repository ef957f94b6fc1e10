use Rattle.std.proofs.Common.{◌+◌, ◌-◌, ◌/◌, length, sym, subst, ◌∙◌, arith}
use Rattle.std.proofs.lemmas.List.{length-append}
use Rattle.std.specs.Fork.{ChangesAt}
use Rattle.mpx_sim.proofs.BothShares.{behind, both_shares}
use Rattle.mpx_sim.proofs.shares.+shares.Goals as goal

pub share_out-both-requires-clause-accepts_behind :
    goal.share_out-both-requires-clause-accepts_behind
share_out-both-requires-clause-accepts_behind g t c κs within k d l p is =
    let cut = c.split_at_mut-front in
    let even = length c.args.places.now / c.args.threads in
    let n = even - even / 6 in
    subst (λ i. g.F.Fn.pre c.args.work.now (i, (p, tt))) {x = c.args.first + (n + k)} (omega arith)
    (c.requires.accepts (n + k) d (omega (arith, cut.ensures.front_len, cut.ensures.back_len, l)) p (is ∙ sym (behind c.args.places.now cut.result.0.now cut.result.1.now n k d cut.ensures.value cut.ensures.front_len)))

pub share_out-returns : goal.share_out-returns
share_out-returns g t c =
    let cut = c.split_at_mut-front in
    let even = length c.args.places.now / c.args.threads in
    let n = even - even / 6 in
    let front = cut.result.0.now in let rest = cut.result.1.now in
    let a = c.both.ensures.share in let b = c.both.ensures.rest in
    record {
      len = length-append c.both.new.share c.both.new.rest ∙ omega (arith, a.len, b.len, cut.ensures.front_len, cut.ensures.back_len);
      each = λ k d l. both_shares (ChangesAt g.F.Fn c.args.work.now) c.args.first n c.args.places.now front rest c.both.new.share c.both.new.rest cut.ensures.value cut.ensures.front_len a.len a.each b.each k d (omega (arith, l, cut.ensures.front_len, cut.ensures.back_len));
    }
