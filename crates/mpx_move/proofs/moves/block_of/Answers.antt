use Rattle.std.proofs.Common.{◌≡◌, ◌∙◌, ℕ, ◌*◌, List, Bool, length, take, sum, ap, sym, arith}
use Rattle.mpx_kind.specs.declared.kinds.Kind.{Kind}
use Rattle.mpx_kind.specs.declared.kinds.Fields.{Fields}
use Rattle.mpx_kind.specs.Kinds.{fields_of, is_had}
use Rattle.mpx_post.specs.Posts.{Given}
use Rattle.mpx_post.specs.Agreement.{count_at}
use Rattle.mpx_move.proofs.Places.{counted_place, each_sent, equal_place, one_received}
use Rattle.mpx_move.proofs.moves.block_of.Goals as goal

-- the test of the send counts
had_by_kind : (had : Bool) (fields : Fields) (kind : Kind) (posted given : Given) → had ≡ is_had fields.scounts → fields ≡ fields_of kind → kind ≡ posted.kind → posted ≡ given → is_had (fields_of given.kind).scounts ≡ had
had_by_kind had fields kind posted given h f k p = sym (h ∙ ap (λ (f : Fields). is_had f.scounts) f ∙ ap (λ (k : Kind). is_had (fields_of k).scounts) (k ∙ ap (λ (given : Given). given.kind) p))

pub bounds-as_slice-place : goal.bounds-as_slice-place
bounds-as_slice-place c =
    let had = had_by_kind _ _ _ _ _ c.is_had.ensures c.fields.ensures c.kind.ensures c.post-post.ensures.value ∙ c.if-is_had.true in
    let counts = c.as_slice.ensures.value ∙ c.scounts-counts.ensures ∙ ap (λ (given : Given). given.scounts) c.post-post.ensures.value in
    omega (arith, each_sent c.args.row.now c.args.sender c.requires.fine c.requires.sender c.requires.sends had, ap length counts, c.from-place.ensures)

pub received-count-requires : goal.received-count-requires
received-count-requires c =
    let had = had_by_kind _ _ _ _ _ c.is_had.ensures c.fields.ensures c.kind.ensures c.post-post.ensures.value ∙ c.if-is_had.false in
    ap (λ (given : Given). length given.rcounts) c.post-post.ensures.value ∙ one_received c.args.row.now c.args.sender c.requires.fine c.requires.sender c.requires.sends had

pub returns-then-is_had : goal.returns-then-is_had
returns-then-is_had c =
    let had = had_by_kind _ _ _ _ _ c.is_had.ensures c.fields.ensures c.kind.ensures c.post-post.ensures.value ∙ c.if-is_had.true in
    let counts = c.scounts-counts.ensures ∙ ap (λ (given : Given). given.scounts) c.post-post.ensures.value in
    counted_place c.args.row.now c.args.sender c.requires.fine c.requires.sender c.requires.sends c.args.receiver _ _ c.requires.receiver had
    (c.sum_before.ensures.value ∙ ap (λ (n : ℕ). sum (take n c.scounts-counts.result.now)) c.from-place.ensures ∙ ap (λ (list : List ℕ). sum (take c.args.receiver list)) counts)
    (c.from.ensures ∙ ap (count_at c.as_slice.result.now) c.from-place.ensures ∙ ap (λ (list : List ℕ). count_at list c.args.receiver) (c.as_slice.ensures.value ∙ counts))

pub returns-else-is_had : goal.returns-else-is_had
returns-else-is_had c =
    let had = had_by_kind _ _ _ _ _ c.is_had.ensures c.fields.ensures c.kind.ensures c.post-post.ensures.value ∙ c.if-is_had.false in
    equal_place c.args.row.now c.args.sender c.requires.fine c.requires.sender c.requires.sends c.args.receiver _ _ c.requires.receiver had
    (ap (λ (n : ℕ). n * c.received-count.result) c.from-place.ensures)
    (c.received-count.ensures.value ∙ ap (λ (given : Given). count_at given.rcounts 0) c.post-post.ensures.value)
