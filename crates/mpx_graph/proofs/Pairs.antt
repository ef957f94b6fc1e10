-- The two ends of edges.
use Rattle.std.proofs.Common.{◌≡◌, ℕ, Bool, true, false, List, ◌++◌, map, refl, sym, ap, ◌∙◌}
use Rattle.std.specs.Prelude.{◌==◌, ◌&&◌}
use Rattle.std.proofs.lemmas.List.{map-append}
use Rattle.std.proofs.lemmas.List.Elements.{filter-append}
use Rattle.mpx_birth.specs.declared.edges.Edge.{Edge}
use Rattle.mpx_birth.specs.Edges.{often, has_rank, source_of, destination_of, sources_among, destinations_among}
use Rattle.mpx_graph.proofs.Counting.{count-map-filter, count-same}

and_comm : (a b : Bool) → (a && b) ≡ (b && a)
and_comm true true = refl
and_comm true false = refl
and_comm false true = refl
and_comm false false = refl

-- each edge from i to j stands once at either end
pub ends_agree : (edges : List Edge) (i j : ℕ) → often j (destinations_among i edges) ≡ often i (sources_among j edges)
ends_agree edges i j =
    let starts : Edge → Bool = λ e. e.source == i in
    let stops : Edge → Bool = λ e. e.destination == j in
    count-map-filter (has_rank j) destination_of starts edges
    ∙ count-same (λ e. starts e && stops e) (λ e. stops e && starts e) (λ e. and_comm (starts e) (stops e)) edges
    ∙ sym (count-map-filter (has_rank i) source_of stops edges)

-- more edges
pub sources-more : (rank : ℕ) (xs ys : List Edge) → sources_among rank (xs ++ ys) ≡ sources_among rank xs ++ sources_among rank ys
sources-more rank xs ys =
    ap (map source_of) (filter-append (λ (e : Edge). e.destination == rank) xs ys) ∙ map-append source_of _ _

pub destinations-more : (rank : ℕ) (xs ys : List Edge) → destinations_among rank (xs ++ ys) ≡ destinations_among rank xs ++ destinations_among rank ys
destinations-more rank xs ys =
    ap (map destination_of) (filter-append (λ (e : Edge). e.source == rank) xs ys) ∙ map-append destination_of _ _
