-- Where the block for a receiver stands.
use Rattle.std.proofs.Common.{◌≡◌, ℕ, ◌*◌, ◌<◌, Bool, true, false, List, [], ◌∷◌, Option, Some, None, ℤ, length, cond, take, drop, sum, unwrap_or, refl, sym, ap, ◌∙◌, append-nil, eqb-true, arith}
use Rattle.mpx_num.specs.declared.types.Ty.{Ty}
use Rattle.mpx_num.specs.Types.{item_len}
use Rattle.mpx_kind.specs.declared.kinds.Kind.{Kind}
use Rattle.mpx_kind.specs.declared.kinds.Kind.TheVariants as K
use Rattle.mpx_kind.specs.declared.kinds.Exchange.TheVariants as E
use Rattle.mpx_kind.specs.Kinds.{fields_of, is_had}
use Rattle.mpx_post.specs.Posts.{Given, type_of, numbers_of}
use Rattle.mpx_post.specs.Blocks.{IsBlock, block_at, blocks_sent, part, repeated}
use Rattle.mpx_post.specs.Rows.{RowView}
use Rattle.mpx_birth.specs.Topologies.{TopologyView}
use Rattle.mpx_post.specs.Agreement.{count_at, counts_sent, fill, is_fit, is_root, post_at, seat_of, IsFine}
use Rattle.mpx_post.proofs.Blocks.{block_at-part, block_at-repeated, block_within, count_alone, filled_as, length-repeated, rcounts_as, repeated_within}
use Rattle.mpx_post.specs.declared.block.Block.{Block}
use Rattle.mpx_move.specs.Senders.{IsSender, sends_blocks}

-- the blocks' numbers of items, by the kind
abbrev pub sent_as : Kind → (size sender : ℕ) → Given → List ℕ
sent_as kind size sender given = unwrap_or (blocks_sent (fields_of kind).sent (seat_of None size sender given) given.scounts given.rcounts) []

-- one count, which all blocks have
by_one : (given : Given) (size receiver n first count : ℕ) → receiver < size → length given.rcounts ≡ 1 → length (repeated n given.rcounts) ≡ size → fill (Some (repeated n given.rcounts)) given ≡ true → first ≡ receiver * count → count ≡ count_at given.rcounts 0 → IsBlock (type_of given) (repeated n given.rcounts) receiver (length (numbers_of given)) (record { first = first; count = count })
by_one given size receiver n first count l one each filled f e =
    let ty = type_of given in
    let alone : given.rcounts ≡ count ∷ [] = count_alone given.rcounts one ∙ ap (λ (c : ℕ). c ∷ []) (sym e) in
    let so_many : n ≡ size = sym (length-repeated n count) ∙ ap (λ (counts : List ℕ). length (repeated n counts)) (sym alone) ∙ each in
    let below : receiver < n = omega arith in
    rw f (record {
      at = λ nums. sym (ap (λ (counts : List ℕ). block_at ty (repeated n counts) nums receiver) alone ∙ block_at-repeated ty n count nums receiver below);
      within = repeated_within ty n count (numbers_of given) receiver below (ap (λ (counts : List ℕ). sum (repeated n counts) * item_len ty) (sym alone) ∙ eqb-true _ _ filled);
    })

-- a count for each block
by_each : (given : Given) (size receiver : ℕ) (counts : List ℕ) (first count : ℕ) → receiver < size → counts ≡ given.scounts → length counts ≡ size → fill (Some counts) given ≡ true → first ≡ sum (take receiver given.scounts) → count ≡ count_at given.scounts receiver → IsBlock (type_of given) counts receiver (length (numbers_of given)) (record { first = first; count = count })
by_each given size receiver counts first count l same each filled f e =
    let ty = type_of given in
    let below : receiver < length counts = omega arith in
    rw (f, e, ← same) (record {
      at = λ nums. sym (block_at-part ty counts nums receiver below);
      within = block_within ty counts (numbers_of given) receiver below (eqb-true _ _ filled);
    })

-- what only the root sends, where some are to receive
by_root : (root : Bool) (size : ℕ) (counts : List ℕ) → 0 < size → length (repeated (cond root 1 0) counts) ≡ size → repeated (cond root 1 0) counts ≡ counts
by_root true size counts l each = append-nil counts
by_root false size counts l each = absurd (omega arith)

module _ (topology : Option TopologyView) (given : Given) (size sender : ℕ) (fit : is_fit topology size sender given ≡ true) where
  one_count : (kind : Kind) → given.kind ≡ kind → sends_blocks kind ≡ true → is_had (fields_of kind).scounts ≡ false → length given.rcounts ≡ 1
  one_count (K.Exchange E.Scatter) is sends had = rcounts_as topology (K.Exchange E.Scatter) size sender given is fit
  one_count (K.Exchange E.Alltoall) is sends had = rcounts_as topology (K.Exchange E.Alltoall) size sender given is fit
  one_count (K.Exchange E.Scatterv) is sends had = cc had
  one_count (K.Exchange E.Alltoallv) is sends had = cc had
  one_count kind is sends had = cc sends

  sent_scounts : (kind : Kind) → 0 < size → sends_blocks kind ≡ true → is_had (fields_of kind).scounts ≡ true → length (sent_as kind size sender given) ≡ size → sent_as kind size sender given ≡ given.scounts
  sent_scounts (K.Exchange E.Scatterv) l sends had each = by_root (is_root sender given) size given.scounts l each
  sent_scounts (K.Exchange E.Alltoallv) l sends had each = by_root true size given.scounts l each
  sent_scounts (K.Exchange E.Scatter) l sends had each = cc had
  sent_scounts (K.Exchange E.Alltoall) l sends had each = cc had
  sent_scounts kind l sends had each = cc sends

  module _ (receiver first count : ℕ) (l : receiver < size) where
    equal_block : (kind : Kind) → given.kind ≡ kind → sends_blocks kind ≡ true → is_had (fields_of kind).scounts ≡ false → length (sent_as kind size sender given) ≡ size → first ≡ receiver * count → count ≡ count_at given.rcounts 0 → IsBlock (type_of given) (sent_as kind size sender given) receiver (length (numbers_of given)) (record { first = first; count = count })
    equal_block (K.Exchange E.Scatter) is sends had each f e = by_one given size receiver _ first count l (one_count (K.Exchange E.Scatter) is sends had) each (filled_as topology (K.Exchange E.Scatter) size sender given is fit) f e
    equal_block (K.Exchange E.Alltoall) is sends had each f e = by_one given size receiver _ first count l (one_count (K.Exchange E.Alltoall) is sends had) each (filled_as topology (K.Exchange E.Alltoall) size sender given is fit) f e
    equal_block (K.Exchange E.Scatterv) is sends had each f e = cc had
    equal_block (K.Exchange E.Alltoallv) is sends had each f e = cc had
    equal_block kind is sends had each f e = cc sends

    counted_block : (kind : Kind) → given.kind ≡ kind → sends_blocks kind ≡ true → is_had (fields_of kind).scounts ≡ true → length (sent_as kind size sender given) ≡ size → first ≡ sum (take receiver given.scounts) → count ≡ count_at given.scounts receiver → IsBlock (type_of given) (sent_as kind size sender given) receiver (length (numbers_of given)) (record { first = first; count = count })
    counted_block (K.Exchange E.Scatterv) is sends had each f e = by_each given size receiver _ first count l (sent_scounts (K.Exchange E.Scatterv) (omega arith) sends had each) each (filled_as topology (K.Exchange E.Scatterv) size sender given is fit) f e
    counted_block (K.Exchange E.Alltoallv) is sends had each f e = by_each given size receiver _ first count l (sent_scounts (K.Exchange E.Alltoallv) (omega arith) sends had each) each (filled_as topology (K.Exchange E.Alltoallv) size sender given is fit) f e
    counted_block (K.Exchange E.Scatter) is sends had each f e = cc had
    counted_block (K.Exchange E.Alltoall) is sends had each f e = cc had
    counted_block kind is sends had each f e = cc sends

-- what is in a block, by the type and the numbers of the items
pub part_of : (given : Given) (block : Block) (ty : Ty) (nums : List ℤ) → ty ≡ type_of given → nums ≡ numbers_of given → take (block.count * item_len ty) (drop (block.first * item_len ty) nums) ≡ part (type_of given) block (numbers_of given)
part_of given block ty nums t e = rw (t, e)

module _ (row : RowView) (sender : ℕ) (fine : IsFine row) (l : sender < length row) (sends : IsSender row sender) where
  of_kind : sends_blocks (post_at row sender).kind ≡ true
  of_kind = ap sends_blocks (fine.with.each sender l).kind ∙ sends.kind

  pub one_received : is_had (fields_of (post_at row sender).kind).scounts ≡ false → length (post_at row sender).rcounts ≡ 1
  one_received had = one_count fine.topology (post_at row sender) (length row) sender (fine.with.each sender l).fit (post_at row sender).kind refl of_kind had

  pub each_sent : is_had (fields_of (post_at row sender).kind).scounts ≡ true → length (post_at row sender).scounts ≡ length row
  each_sent had = ap length (sym (sent_scounts fine.topology (post_at row sender) (length row) sender (fine.with.each sender l).fit (post_at row sender).kind (omega arith) of_kind had sends.each)) ∙ sends.each

  module _ (receiver first count : ℕ) (r : receiver < length row) where
    pub equal_place : is_had (fields_of (post_at row sender).kind).scounts ≡ false → first ≡ receiver * count → count ≡ count_at (post_at row sender).rcounts 0 → IsBlock (type_of (post_at row sender)) (counts_sent None row sender) receiver (length (numbers_of (post_at row sender))) (record { first = first; count = count })
    equal_place had f e = equal_block fine.topology (post_at row sender) (length row) sender (fine.with.each sender l).fit receiver first count r (post_at row sender).kind refl of_kind had sends.each f e

    pub counted_place : is_had (fields_of (post_at row sender).kind).scounts ≡ true → first ≡ sum (take receiver (post_at row sender).scounts) → count ≡ count_at (post_at row sender).scounts receiver → IsBlock (type_of (post_at row sender)) (counts_sent None row sender) receiver (length (numbers_of (post_at row sender))) (record { first = first; count = count })
    counted_place had f e = counted_block fine.topology (post_at row sender) (length row) sender (fine.with.each sender l).fit receiver first count r (post_at row sender).kind refl of_kind had sends.each f e
