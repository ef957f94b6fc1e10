-- One row more.
use Rattle.std.proofs.Common.{◌≡◌, ◌++◌, ◌∷◌, [], ℕ, None, true, ap, sym, subst, ◌∙◌, arith, length-append}
use Rattle.std.proofs.lemmas.List.{map_push}
use Rattle.std.specs.Ordering.{nat_cmp}
use Rattle.std.specs.Cmp.{nat_cmp_total}
use Rattle.join_core.specs.declared.max.Max.{Max}
use Rattle.join_nest.specs.Seen.{seen}
use Rattle.mpx_format.specs.Fields.{process, some_calls}
use Rattle.mpx_format.specs.Rising.{always, entry, last_of, may_come}
use Rattle.mpx_format.proofs.Rows.{may_come_seen, sorted_push}
use Rattle.mpx_decode.proofs.Loop.{goes_on, is_done}
use Rattle.mpx_decode.proofs.RightRows.{comes_after, row_is_entry}
use Rattle.mpx_decode.proofs.process_numbers.right_rows.Goals as goal

abbrev number_of : Max → ℕ
number_of m = m.0

pub loop-preserved : goal.loop-preserved
loop-preserved c =
    let rows = c.loop.rows.items in
    let p = c.in-Some.process in
    let n = c.in-Some.number in
    let row : ℕ × Max = (p, record { 0 = n }) in
    let front = seen number_of rows in
    let e : c.push_reserved.new.self.items ≡ rows ++ row ∷ [] = c.push_reserved.ensures.items ∙ ap (λ (q : ℕ). rows ++ (q, record { 0 = n }) ∷ []) c.new.ensures in
    let shown : seen number_of c.push_reserved.new.self.items ≡ front ++ (p, n) ∷ [] = ap (seen number_of) e ∙ map_push (λ (x : ℕ × Max). (x.0, number_of x.1)) rows row in
    let may : may_come nat_cmp None (last_of rows) p ≡ true = c.loop.invariant.next p c.if-process-least.false in
    let is = row_is_entry front c.loop.rest.now c.in-Some.after.now p n c.in-Some.ensures c.if-process-ge64.false (omega arith) (may_come_seen nat_cmp None number_of rows p ∙ may) in
    record {
      read = rw shown (goes_on (entry nat_cmp None process some_calls always) front c.args.count c.loop.counter c.loop.rest.now c.args.bytes.now (p, n) c.in-Some.after.now c.loop-test.true is c.loop.invariant.read);
      rising = rw e (sorted_push nat_cmp_total None rows row c.loop.invariant.rising may);
      next = λ q le. subst (λ l. may_come nat_cmp None (last_of l) q ≡ true) (sym e) (comes_after rows row q (omega (arith, le)));
      len = rw e (omega (arith, c.loop.invariant.len, length-append rows (row ∷ [])));
      capacity = c.push_reserved.ensures.capacity ∙ c.loop.invariant.capacity;
    }

pub returns-clause-read : goal.returns-clause-read
returns-clause-read c = is_done (entry nat_cmp None process some_calls always) (seen number_of c.loop.rows.items) c.args.count c.loop.counter c.loop.rest.now c.args.bytes.now c.loop-test.false c.loop.invariant.read
