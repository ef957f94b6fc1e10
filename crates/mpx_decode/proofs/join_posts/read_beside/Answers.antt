use Rattle.std.proofs.Common.{◌++◌, [], Ok, ap, arith, refl, sym, ◌∙◌, List, ℕ, Result, ◌≡◌, rules}
use Rattle.std.specs.Ordering.{nat_cmp}
use Rattle.std.specs.Cmp.{nat_cmp_total}
use Rattle.std.specs.FinMap.{nat_cmp-IsAntisymmetric}
use Rattle.join_core.specs.Flat.{flat_joining}
use Rattle.join_core.specs.FlatSeen.{flat_view}
use Rattle.join_nest.specs.Seen.{keyed_view}
use Rattle.mpx_post.specs.Equality.{same_given}
use Rattle.mpx_format.specs.Contexts.{call_posts, posted}
use Rattle.mpx_format.specs.Fields.{process, some_byte}
use Rattle.mpx_format.proofs.FieldLaws.{some_byte_laws}
use Rattle.mpx_decode.proofs.FirstPosts.{read_whole}
use Rattle.mpx_decode.proofs.NearBytes.{read_on}
use Rattle.mpx_decode.proofs.NoParts.{map_none}
use Rattle.mpx_decode.proofs.Taken.{map_raised, rows_stand}
use Rattle.mpx_decode.proofs.join_posts.read_beside.Goals as goal

pub raise_entries-requires-clause-spelled : goal.raise_entries-requires-clause-spelled
unfolding call_posts
raise_entries-requires-clause-spelled c =
    let more = c.args.beyond.now in
    let count = read_on some_byte_laws c.args.bytes.now c.in-Ok.rest.now c.in-Ok.count (λ i. omega (arith, c.type_inv.bytes i)) c.in-Ok.ensures.gives more in
    rows_stand nat_cmp some_byte process (posted c.args.version) (c.args.bytes.now ++ more) c.in-Ok.count (c.in-Ok.rest.now ++ more) count c.requires

-- what is joined to none is what was read
pub returns-clause-read : goal.returns-clause-read
unfolding call_posts
returns-clause-read c =
    let more = c.args.beyond.now in
    let count = read_on some_byte_laws c.args.bytes.now c.in-Ok.rest.now c.in-Ok.count (λ i. omega (arith, c.type_inv.bytes i)) c.in-Ok.ensures.gives more in
    let left = c.in-Ok-raise_entries.rest.now ++ c.raise_entries.new.beyond in
    let done : Result (List ℕ) ℕ = Ok left in
    let made = keyed_view nat_cmp (flat_view (λ p. p)) c.raise_entries.new.entries.items in
    let raised = map_raised nat_cmp some_byte process (posted c.args.version) (c.args.bytes.now ++ more) c.in-Ok.count (c.in-Ok.rest.now ++ more) count done (λ x. x) _ made _ made refl refl (flat_joining same_given) c.in-Ok-raise_entries.ensures.ok in
    let first : c.new-entries.result.items ≡ [] = search rules in
    let none = ap (λ es. keyed_view nat_cmp (flat_view (λ p. p)) es) first ∙ map_none nat_cmp in
    read_whole nat_cmp_total nat_cmp-IsAntisymmetric (flat_joining same_given) (call_posts c.args.version) (c.args.bytes.now ++ more) left _ made none raised ∙ ap (λ m. Ok (m, left)) (sym c.from_rising.ensures)
