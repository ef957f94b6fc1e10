use Rattle.std.proofs.Common.{◌≡◌, ℕ, List, [], ◌∷◌, ◌++◌, length, take, drop, refl, sym, ap, subst, ◌∙◌, rules}
use Rattle.std.proofs.lemmas.List.{take_at}
use Rattle.std.specs.List.{flat_map}
use Rattle.mpx_num.specs.ItemList.{AreItems}
use Rattle.mpx_num.specs.Spelling.{bytes_of, numbers_in}
use Rattle.mpx_num.proofs.spelled.few.Goals as goal

pub invariant_of-result : goal.invariant_of-result
invariant_of-result c =
    let bytes = c.args.bytes.now in
    let zeros : List ℕ = 0 ∷ 0 ∷ 0 ∷ 0 ∷ 0 ∷ 0 ∷ 0 ∷ 0 ∷ 0 ∷ 0 ∷ 0 ∷ 0 ∷ 0 ∷ 0 ∷ 0 ∷ 0 ∷ [] in
    let same : c.copy_from_slice.new.self ≡ bytes = search rules in
    let front : take (length bytes) (c.copy_from_slice.new.self ++ drop (length bytes) zeros) ≡ bytes = ap (λ l. take (length bytes) (l ++ drop (length bytes) zeros)) same ∙ take_at bytes (drop (length bytes) zeros) (length bytes) refl in
    record {
      items = subst (λ l. AreItems c.args.ty (numbers_in c.args.ty l)) (sym front) c.requires.items;
      spelling = subst (λ l. flat_map (bytes_of c.args.ty) (numbers_in c.args.ty l) ≡ l) (sym front) c.requires.spelling;
      few = c.requires.few;
    }
