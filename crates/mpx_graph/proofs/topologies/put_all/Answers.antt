use Rattle.std.proofs.Common.{◌≡◌, ◌∙◌, ◌++◌, ◌∷◌, ◌+◌, ◌<◌, [], ℕ, List, take, get_or, length, vec_len, ap, sym, append_assoc}
use Rattle.std.proofs.lemmas.List.{take_more}
use Rattle.mpx_birth.specs.declared.edges.Edge.{Edge}
use Rattle.mpx_graph.specs.Graphs.{graph_among}
use Rattle.mpx_graph.proofs.topologies.put_all.Goals as goal

one_further : (m n i : ℕ) (d : Edge) (before edges : List Edge) → i < length edges → m ≡ n → graph_among m ((before ++ take i edges) ++ get_or edges i d ∷ []) ≡ graph_among n (before ++ take (i + 1) edges)
one_further m n i d before edges l same =
    ap (λ (k : ℕ). graph_among k ((before ++ take i edges) ++ get_or edges i d ∷ [])) same
    ∙ ap (graph_among n) (append_assoc before (take i edges) (get_or edges i d ∷ []) ∙ ap (λ (es : List Edge). before ++ es) (sym (take_more edges i d l)))

pub loop-edge-preserved : goal.loop-edge-preserved
loop-edge-preserved c = record {
  long = c.in_ok-put.ensures.long ∙ c.loop-edge.invariant.long;
  graph = λ before is.
      let size = vec_len c.args.ranks.now in
      let i = c.loop-edge.edge-index in
      let edges = c.args.edges.now in
      let now : c.loop-edge.ranks.items ≡ graph_among (vec_len c.loop-edge.ranks) (before ++ take i edges) =
      c.loop-edge.invariant.graph before is ∙ ap (λ (n : ℕ). graph_among n (before ++ take i edges)) (sym c.loop-edge.invariant.long) in
      c.in_ok-put.ensures.graph (before ++ take i edges) now ∙ one_further _ _ i _ before edges c.loop-edge-test.true c.loop-edge.invariant.long;
}
