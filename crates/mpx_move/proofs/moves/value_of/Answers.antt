use Rattle.std.proofs.Common.{◌≡◌, ℕ, ◌==◌, ◌∙◌, Bool, true, false, Option, Some, unwrap_or, inl, inr, ap, sym, arith}
use Rattle.std.proofs.lemmas.Bool.{cond-true, cond-false, false≢true}
use Rattle.std.proofs.lemmas.Bool.Decides.{nat_tests}
use Rattle.mpx_kind.specs.declared.kinds.Exchange.{Exchange}
use Rattle.mpx_kind.specs.declared.kinds.Exchange.TheVariants.{Gather}
use Rattle.mpx_kind.specs.declared.kinds.Kind.{Kind}
use Rattle.mpx_kind.specs.declared.kinds.Kind.TheVariants as K
use Rattle.mpx_post.specs.declared.value.Value.TheVariants.{Nothing, Items}
use Rattle.mpx_kind.specs.Kinds.{fields_of}
use Rattle.mpx_post.specs.Posts.{numbers_of, root_of}
use Rattle.mpx_post.specs.Rows.{RowView}
use Rattle.mpx_post.specs.Agreement.{first_of, post_at}
use Rattle.mpx_post.specs.Values.{as_items}
use Rattle.mpx_move.specs.Moves.{block_for, joined, move_of}
use Rattle.mpx_move.specs.Senders.{sends_blocks}
use Rattle.mpx_move.proofs.Senders.{is_sender}
use Rattle.mpx_post.proofs.Values.{gives_items}
use Rattle.mpx_move.proofs.moves.value_of.Goals as goal

-- the value by the exchange
by : (row : RowView) (rank : ℕ) (read exchange : Exchange) → read ≡ exchange → move_of exchange row rank ≡ move_of read row rank
by row rank read exchange is = ap (λ (e : Exchange). move_of e row rank) (sym is)

root_is : (row : RowView) (root : ℕ) → (first_of row).root ≡ Some root → root_of (first_of row) ≡ root
root_is row root e = ap (λ (o : Option ℕ). unwrap_or o 0) e

at_root : (row : RowView) (root rank : ℕ) → (first_of row).root ≡ Some root → root ≡ rank → (rank == root_of (first_of row)) ≡ true
at_root row root rank e same = let is : root_of (first_of row) ≡ root = root_is row root e in grind (arith, nat_tests)

elsewhere : (row : RowView) (root rank : ℕ) → (first_of row).root ≡ Some root → (root ≡ rank → ⊥) → (rank == root_of (first_of row)) ≡ false
elsewhere row root rank e other = let is : root_of (first_of row) ≡ root = root_is row root e in grind (arith, nat_tests)

abbrev sends : Exchange → Bool
sends exchange = sends_blocks (K.Exchange exchange)

pub block_value-requires-clause-sends : goal.block_value-requires-clause-sends
block_value-requires-clause-sends c =
    let each : sends c.args.exchange ≡ true = elim c.in-Scatter.is [ inl is ↦ ap sends is | inr is ↦ ap sends is ] in
    is_sender c.args.row.now c.root-in-Scatter.result c.requires.fine c.root-in-Scatter.ensures.rank (ap sends_blocks c.requires.kind ∙ each) (λ _. c.root-in-Scatter.ensures.value)

pub blocks_value-requires-clause-senders : goal.blocks_value-requires-clause-senders
blocks_value-requires-clause-senders c =
    let each : sends c.args.exchange ≡ true = elim c.in-Alltoall.is [ inl is ↦ ap sends is | inr is ↦ ap sends is ] in
    let rooted : Exchange → Bool = λ e. (fields_of (K.Exchange e)).root in
    let no_root : rooted c.args.exchange ≡ false = elim c.in-Alltoall.is [ inl is ↦ ap rooted is | inr is ↦ ap rooted is ] in
    λ sender l. is_sender c.args.row.now sender c.requires.fine l (ap sends_blocks c.requires.kind ∙ each) (λ has. absurd (false≢true (sym no_root ∙ ap (λ (k : Kind). (fields_of k).root) (sym c.requires.kind) ∙ has)))

pub returns-in_ok-items-in-Bcast : goal.returns-in_ok-items-in-Bcast
returns-in_ok-items-in-Bcast c =
    let row = c.args.row.now in
    ap Items (c.in_ok-items-in-Bcast.ensures ∙ c.given.ensures)
    ∙ ap (λ (n : ℕ). as_items row (numbers_of (post_at row n))) (sym (root_is row c.root.result c.root.ensures.value))
    ∙ by row c.args.rank c.args.exchange _ c.in-Bcast.is

pub returns-then-root-from : goal.returns-then-root-from
returns-then-root-from c =
    let row = c.args.row.now in
    let here : (c.args.rank == root_of (first_of row)) ≡ true = at_root row c.root-in-Gather.result c.args.rank c.root-in-Gather.ensures.value (c.if-root-from.true ∙ c.from.ensures) in
    let all : as_items row (joined row) ≡ move_of Gather row c.args.rank = sym (cond-true _ (as_items row (joined row)) Nothing here) in
    gives_items _ _ _ (all ∙ elim c.in-Gather.is [ inl is ↦ by row c.args.rank c.args.exchange _ is | inr is ↦ by row c.args.rank c.args.exchange _ is ]) c.joined_value.ensures tt

pub returns-else-root-from : goal.returns-else-root-from
returns-else-root-from c =
    let row = c.args.row.now in
    let away : (c.args.rank == root_of (first_of row)) ≡ false = elsewhere row c.root-in-Gather.result c.args.rank c.root-in-Gather.ensures.value (λ e. c.if-root-from.false (e ∙ sym c.from.ensures)) in
    let none : Nothing ≡ move_of Gather row c.args.rank = sym (cond-false _ (as_items row (joined row)) Nothing away) in
    none ∙ elim c.in-Gather.is [ inl is ↦ by row c.args.rank c.args.exchange _ is | inr is ↦ by row c.args.rank c.args.exchange _ is ]

pub returns-in-Scatter : goal.returns-in-Scatter
returns-in-Scatter c =
    let row = c.args.row.now in
    let block = ap (λ (root : ℕ). as_items row (block_for row c.args.rank root)) (sym (root_is row c.root-in-Scatter.result c.root-in-Scatter.ensures.value)) in
    gives_items _ _ _ (block ∙ elim c.in-Scatter.is [ inl is ↦ by row c.args.rank c.args.exchange _ is | inr is ↦ by row c.args.rank c.args.exchange _ is ]) c.block_value.ensures tt

pub returns-in-Allgather : goal.returns-in-Allgather
returns-in-Allgather c =
    gives_items _ _ _ (elim c.in-Allgather.is [ inl is ↦ by c.args.row.now c.args.rank c.args.exchange _ is | inr is ↦ by c.args.row.now c.args.rank c.args.exchange _ is ]) c.joined_value-in-Allgather.ensures tt

pub returns-in-Alltoall : goal.returns-in-Alltoall
returns-in-Alltoall c =
    gives_items _ _ _ (elim c.in-Alltoall.is [ inl is ↦ by c.args.row.now c.args.rank c.args.exchange _ is | inr is ↦ by c.args.row.now c.args.rank c.args.exchange _ is ]) c.blocks_value.ensures tt
