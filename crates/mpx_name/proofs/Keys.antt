-- Names as keys of maps.
use Rattle.std.proofs.Common.{◌≡◌, ap}
use Rattle.std.specs.BTreeMap.{is_at}
use Rattle.std.specs.Ordering.{is_eq, ordering_reverse}
use Rattle.std.specs.declared.cmp.Ordering.{Ordering}
use Rattle.std.specs.declared.cmp.Ordering.TheVariants.{Less, Equal, Greater}
use Rattle.mpx_name.specs.Name.{Name, same_name}
use Rattle.mpx_name.specs.Order.{name_cmp, name_total}

tied_either : (r s : Ordering) → s ≡ ordering_reverse r → is_eq s ≡ is_eq r
tied_either Less s e = ap is_eq e
tied_either Equal s e = ap is_eq e
tied_either Greater s e = ap is_eq e

-- either order of two names
pub either : (n name : Name) → same_name n name ≡ is_at (name_cmp name) n
either n name = tied_either (name_cmp name n) (name_cmp n name) (name_total.antisymm n name)
