use Rattle.std.proofs.Common.{◌≡◌, ◌+◌, ◌<◌, ◌++◌, ◌∷◌, [], ℤ, pos, List, length, take, drop, get_or, to_z, of_z, sym, ap, ◌∙◌, arith, append_assoc}
use mir.Syntax.{w128}
use Rattle.std.proofs.lemmas.Int.{to_z-of_z}
use Rattle.std.proofs.lemmas.List.{take_more, get_or-drop, length-drop}
use Rattle.mpx_num.proofs.numbers.append_list.Goals as goal

-- one number more behind those that are there
joined : (old out new xs ys : List ℤ) (n : ℤ) → new ≡ out ++ n ∷ [] → out ≡ old ++ xs → ys ≡ xs ++ n ∷ [] → new ≡ old ++ ys
joined old out new xs ys n e so_far more = e ∙ ap (λ l. l ++ n ∷ []) so_far ∙ append_assoc old xs (n ∷ []) ∙ ap (λ l. old ++ l) (sym more)

pub loop-i-preserved : goal.loop-i-preserved
loop-i-preserved c =
    let rest : List ℤ = drop c.args.first c.args.from.now.nums in
    let n : ℤ = to_z w128 (of_z w128 c.number.result) in
    let inside : c.loop-i.i < length rest = omega (arith, length-drop c.args.first c.args.from.now.nums) in
    let is : n ≡ get_or rest c.loop-i.i (pos 0) = to_z-of_z w128 c.number.result (record { sfits = c.number.type_inv }) ∙ c.number.ensures.value ∙ sym (get_or-drop c.args.first c.args.from.now.nums c.loop-i.i (pos 0)) in
    let more : take (c.loop-i.i + 1) rest ≡ take c.loop-i.i rest ++ n ∷ [] = take_more rest c.loop-i.i (pos 0) inside ∙ ap (λ (m : ℤ). take c.loop-i.i rest ++ m ∷ []) (sym is) in
    record {
      items = joined c.args.list.now.items c.loop-i.list.items c.push_reserved.new.self.items (take c.loop-i.i rest) (take (c.loop-i.i + 1) rest) n c.push_reserved.ensures.items c.loop-i.invariant.items more;
      room = omega (arith, c.push_reserved.ensures.len, c.push_reserved.ensures.capacity, c.loop-i.invariant.room);
    }
