use Rattle.std.proofs.Common.{◌≡◌, sym, subst, rules}
use Rattle.std.specs.List.{flat_map}
use Rattle.mpx_num.specs.ItemList.{AreItems}
use Rattle.mpx_num.specs.Spelling.{bytes_of, numbers_in}
use Rattle.mpx_num.proofs.spelled.shared.Goals as goal

pub invariant_of-result : goal.invariant_of-result
invariant_of-result c =
    let is : c.in-Ok.bytes ≡ c.args.bytes.items = search rules in
    record {
      items = subst (λ l. AreItems c.args.ty (numbers_in c.args.ty l)) (sym is) c.requires.items;
      spelling = subst (λ l. flat_map (bytes_of c.args.ty) (numbers_in c.args.ty l) ≡ l) (sym is) c.requires.spelling;
      few = tt;
    }
