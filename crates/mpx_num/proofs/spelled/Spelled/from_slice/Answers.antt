use Rattle.std.proofs.Common.{◌≡◌, ◌*◌, length, ap, ◌∙◌, sym, subst, rules, arith}
use Rattle.std.specs.List.{flat_map}
use Rattle.mpx_num.specs.ItemList.{AreItems}
use Rattle.mpx_num.specs.Spelling.{bytes_of, number_len, numbers_in}
use Rattle.mpx_num.proofs.Spellings.{are_spelled, if_ok_len, if_ok_spelled}
use Rattle.mpx_num.proofs.spelled.Spelled.from_slice.Goals as goal

pub few-requires-clause-items : goal.few-requires-clause-items
few-requires-clause-items c = (are_spelled c.args.ty c.args.bytes.now c.requires (λ i. omega (arith, c.type_inv.bytes i))).items

pub few-requires-clause-spelling : goal.few-requires-clause-spelling
few-requires-clause-spelling c = (are_spelled c.args.ty c.args.bytes.now c.requires (λ i. omega (arith, c.type_inv.bytes i))).spelling

pub shared-requires-clause-items : goal.shared-requires-clause-items
shared-requires-clause-items c =
    let is : c.in_ok-from_slice.field-0.items ≡ c.args.bytes.now = search rules in
    subst (λ l. AreItems c.args.ty (numbers_in c.args.ty l)) (sym is) (are_spelled c.args.ty c.args.bytes.now c.requires (λ i. omega (arith, c.type_inv.bytes i))).items

pub shared-requires-clause-spelling : goal.shared-requires-clause-spelling
shared-requires-clause-spelling c =
    let is : c.in_ok-from_slice.field-0.items ≡ c.args.bytes.now = search rules in
    subst (λ l. flat_map (bytes_of c.args.ty) (numbers_in c.args.ty l) ≡ l) (sym is) (are_spelled c.args.ty c.args.bytes.now c.requires (λ i. omega (arith, c.type_inv.bytes i))).spelling

pub returns-then-bytes-le-FEW-clause-spelling : goal.returns-then-bytes-le-FEW-clause-spelling
returns-then-bytes-le-FEW-clause-spelling c =
    let made : c.few.result.nums ≡ numbers_in c.args.ty c.args.bytes.now = search rules in
    ap (flat_map (bytes_of c.args.ty)) made ∙ (are_spelled c.args.ty c.args.bytes.now c.requires (λ i. omega (arith, c.type_inv.bytes i))).spelling

pub returns-in_ok-from_slice-clause-spelling : goal.returns-in_ok-from_slice-clause-spelling
returns-in_ok-from_slice-clause-spelling c =
    let is : c.in_ok-from_slice.field-0.items ≡ c.args.bytes.now = search rules in
    let spelling = (are_spelled c.args.ty c.args.bytes.now c.requires (λ i. omega (arith, c.type_inv.bytes i))).spelling in
    if_ok_spelled c.shared.result c.args.ty c.in_ok-from_slice.field-0.items c.args.bytes.now c.shared.ensures is spelling

pub returns-then-bytes-le-FEW-clause-len : goal.returns-then-bytes-le-FEW-clause-len
returns-then-bytes-le-FEW-clause-len c =
    let made : c.few.result.nums ≡ numbers_in c.args.ty c.args.bytes.now = search rules in
    ap (λ l. length l * number_len c.args.ty) made ∙ sym (are_spelled c.args.ty c.args.bytes.now c.requires (λ i. omega (arith, c.type_inv.bytes i))).len

pub returns-in_ok-from_slice-clause-len : goal.returns-in_ok-from_slice-clause-len
returns-in_ok-from_slice-clause-len c =
    let is : c.in_ok-from_slice.field-0.items ≡ c.args.bytes.now = search rules in
    let len = (are_spelled c.args.ty c.args.bytes.now c.requires (λ i. omega (arith, c.type_inv.bytes i))).len in
    if_ok_len c.shared.result c.args.ty c.in_ok-from_slice.field-0.items c.args.bytes.now c.shared.ensures is len
