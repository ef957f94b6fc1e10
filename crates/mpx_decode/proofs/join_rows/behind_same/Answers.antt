use Rattle.std.proofs.Common.{◌≡◌, ◌<◌, ◌∷◌, ◌++◌, ◌∙◌, length, ap, sym, subst, arith}
use Rattle.mpx_decode.specs.Raising.{JoinsFront}
use Rattle.mpx_decode.proofs.ToldRows.{told_at}
use Rattle.mpx_decode.proofs.join_rows.behind_same.Goals as goal

pub returns-then-first-byte-clause-same : goal.returns-then-first-byte-clause-same
returns-then-first-byte-clause-same g c more =
    let es = c.args.entries.now in
    let e = c.index-entries-at.result in
    let lt : c.args.at < length es = omega arith in
    let rest = c.in_ok-first.rest.now ++ more in
    let left : c.in_ok-byte.byte ∷ rest ≡ c.in_ok-after.after.now ++ more = ap (λ b. b ∷ rest) (sym c.if-first-byte.true) ∙ ap (λ l. l ++ more) (sym c.in_ok-first.ensures.cases.0) in
    told_at g.met.K.Ord.total g.met.K.Key.exact_order g.J.WireJoin.view g.K.WireKey.format (g.J.WireJoin.wire c.args.version) g.J.WireJoin.joining es c.requires.rising c.args.at lt e c.index-entries-at.is
    (c.args.bytes.now ++ more) (c.in_ok-after.after.now ++ more) rest (c.in_ok-after.ensures more) (subst (λ l. JoinsFront (g.J.WireJoin.wire c.args.version) g.J.WireJoin.joining l rest (g.J.WireJoin.view e.1) (g.J.WireJoin.view e.1)) left (c.in_ok-byte.ensures rest))
