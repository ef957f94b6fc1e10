use Rattle.std.proofs.Common.{◌+◌, ◌<◌, ◌∙◌, arith}
use Rattle.mpx_decode.proofs.Fours.{four_raised, is_of}
use Rattle.mpx_decode.proofs.join_numbers.raise_four.Goals as goal

pub returns-clause-joined : goal.returns-clause-joined
returns-clause-joined c =
    let es = c.args.entries.now.items in
    let at = c.args.at in
    let p0 : c.in_ok-p.p < 64 = omega (arith, c.if-p-number.false, c.number.ensures.below) in
    let p1 : c.in_ok-q.q < 64 = omega (arith, c.if-q-number.false, c.number-else-p-number.ensures.below) in
    let p2 : c.in_ok-r.r < 64 = omega (arith, c.if-r-number.false, c.number-else-q-number.ensures.below) in
    let p3 : c.in_ok-s.s < 64 = omega (arith, c.if-s-number.false, c.number-else-r-number.ensures.below) in
    let n0 : 0 < c.in_ok-p.a = omega (arith, c.if-a-eq0.false) in
    let n1 : 0 < c.in_ok-q.b = omega (arith, c.if-b-eq0.false) in
    let n2 : 0 < c.in_ok-r.c = omega (arith, c.if-c-eq0.false) in
    let n3 : 0 < c.in_ok-s.d = omega (arith, c.if-d-eq0.false) in
    (four_raised es c.raise_at.new.entries.items c.raise_at-2.new.entries.items c.raise_at-3.new.entries.items c.raise_at-4.new.entries.items at
    c.args.bytes.now c.in_ok-p.rest.now c.in_ok-q.rest.now c.in_ok-r.rest.now c.in_ok-s.rest.now
    c.in_ok-p.p c.in_ok-q.q c.in_ok-r.r c.in_ok-s.s c.in_ok-p.a c.in_ok-q.b c.in_ok-r.c c.in_ok-s.d
    c.requires.rising c.requires.within
    c.raise_at.ensures c.raise_at-2.ensures c.raise_at-3.ensures c.raise_at-4.ensures
    (is_of es at c.index.result.now c.in_ok-p.p (omega (arith, c.requires.within)) c.index.ensures (c.if-p-number.false ∙ c.number.ensures.number))
    (is_of es (at + 1) c.index-else-p-number.result.now c.in_ok-q.q (omega (arith, c.requires.within)) c.index-else-p-number.ensures (c.if-q-number.false ∙ c.number-else-p-number.ensures.number))
    (is_of es (at + 2) c.index-else-q-number.result.now c.in_ok-r.r (omega (arith, c.requires.within)) c.index-else-q-number.ensures (c.if-r-number.false ∙ c.number-else-q-number.ensures.number))
    (is_of es (at + 3) c.index-else-r-number.result.now c.in_ok-s.s (omega (arith, c.requires.within)) c.index-else-r-number.ensures (c.if-s-number.false ∙ c.number-else-r-number.ensures.number))
    (p0, p1, p2, p3) (n0, n1, n2, n3)
    c.in_ok-p.ensures c.in_ok-q.ensures c.in_ok-r.ensures c.in_ok-s.ensures).0

pub returns-clause-rising : goal.returns-clause-rising
returns-clause-rising c =
    let es = c.args.entries.now.items in
    let at = c.args.at in
    let p0 : c.in_ok-p.p < 64 = omega (arith, c.if-p-number.false, c.number.ensures.below) in
    let p1 : c.in_ok-q.q < 64 = omega (arith, c.if-q-number.false, c.number-else-p-number.ensures.below) in
    let p2 : c.in_ok-r.r < 64 = omega (arith, c.if-r-number.false, c.number-else-q-number.ensures.below) in
    let p3 : c.in_ok-s.s < 64 = omega (arith, c.if-s-number.false, c.number-else-r-number.ensures.below) in
    let n0 : 0 < c.in_ok-p.a = omega (arith, c.if-a-eq0.false) in
    let n1 : 0 < c.in_ok-q.b = omega (arith, c.if-b-eq0.false) in
    let n2 : 0 < c.in_ok-r.c = omega (arith, c.if-c-eq0.false) in
    let n3 : 0 < c.in_ok-s.d = omega (arith, c.if-d-eq0.false) in
    (four_raised es c.raise_at.new.entries.items c.raise_at-2.new.entries.items c.raise_at-3.new.entries.items c.raise_at-4.new.entries.items at
    c.args.bytes.now c.in_ok-p.rest.now c.in_ok-q.rest.now c.in_ok-r.rest.now c.in_ok-s.rest.now
    c.in_ok-p.p c.in_ok-q.q c.in_ok-r.r c.in_ok-s.s c.in_ok-p.a c.in_ok-q.b c.in_ok-r.c c.in_ok-s.d
    c.requires.rising c.requires.within
    c.raise_at.ensures c.raise_at-2.ensures c.raise_at-3.ensures c.raise_at-4.ensures
    (is_of es at c.index.result.now c.in_ok-p.p (omega (arith, c.requires.within)) c.index.ensures (c.if-p-number.false ∙ c.number.ensures.number))
    (is_of es (at + 1) c.index-else-p-number.result.now c.in_ok-q.q (omega (arith, c.requires.within)) c.index-else-p-number.ensures (c.if-q-number.false ∙ c.number-else-p-number.ensures.number))
    (is_of es (at + 2) c.index-else-q-number.result.now c.in_ok-r.r (omega (arith, c.requires.within)) c.index-else-q-number.ensures (c.if-r-number.false ∙ c.number-else-q-number.ensures.number))
    (is_of es (at + 3) c.index-else-r-number.result.now c.in_ok-s.s (omega (arith, c.requires.within)) c.index-else-r-number.ensures (c.if-s-number.false ∙ c.number-else-r-number.ensures.number))
    (p0, p1, p2, p3) (n0, n1, n2, n3)
    c.in_ok-p.ensures c.in_ok-q.ensures c.in_ok-r.ensures c.in_ok-s.ensures).1
