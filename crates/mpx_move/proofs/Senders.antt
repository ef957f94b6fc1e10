-- Who sends each member a block.
use Rattle.std.proofs.Common.{◌≡◌, ℕ, ◌<◌, Bool, true, false, Option, Some, length, cond, refl, sym, ap, ◌∙◌, append-nil, eq-eqb}
use Rattle.std.specs.Option.{option_map_or}
use Rattle.std.specs.Prelude.{◌==◌}
use Rattle.mpx_kind.specs.declared.kinds.Kind.{Kind}
use Rattle.mpx_kind.specs.declared.kinds.Kind.TheVariants as K
use Rattle.mpx_kind.specs.declared.kinds.Exchange.TheVariants as E
use Rattle.mpx_kind.specs.Kinds.{fields_of}
use Rattle.mpx_post.specs.Posts.{Given}
use Rattle.mpx_post.specs.Rows.{RowView}
use Rattle.mpx_post.specs.Blocks.{repeated}
use Rattle.mpx_birth.specs.Topologies.{TopologyView}
use Rattle.mpx_post.specs.Agreement.{first_of, is_fit, is_root, post_at, IsFine}
use Rattle.mpx_post.proofs.Blocks.{rcounts_as, scounts_as, length-alone}
use Rattle.mpx_move.specs.Senders.{IsSender, sends_blocks}
use Rattle.mpx_move.proofs.Places.{sent_as}

cond_size : (root : Bool) (size : ℕ) → root ≡ true → cond root size 0 ≡ size
cond_size root size is = rw is refl

module _ (topology : Option TopologyView) (given : Given) (size sender : ℕ) (fit : is_fit topology size sender given ≡ true) where
  sends_each : (kind : Kind) → given.kind ≡ kind → sends_blocks kind ≡ true → ((fields_of kind).root ≡ true → is_root sender given ≡ true) → length (sent_as kind size sender given) ≡ size
  sends_each (K.Exchange E.Scatter) is sends rooted = length-alone _ given.rcounts (rcounts_as topology (K.Exchange E.Scatter) size sender given is fit) ∙ cond_size (is_root sender given) size (rooted refl)
  sends_each (K.Exchange E.Scatterv) is sends rooted =
      let root = rooted refl in
      let all : repeated (cond (is_root sender given) 1 0) given.scounts ≡ given.scounts = rw root (append-nil given.scounts) in
      ap length all ∙ scounts_as topology (K.Exchange E.Scatterv) size sender given is fit ∙ cond_size (is_root sender given) size root
  sends_each (K.Exchange E.Alltoall) is sends rooted = length-alone size given.rcounts (rcounts_as topology (K.Exchange E.Alltoall) size sender given is fit)
  sends_each (K.Exchange E.Alltoallv) is sends rooted = ap length (append-nil given.scounts) ∙ scounts_as topology (K.Exchange E.Alltoallv) size sender given is fit
  sends_each kind is sends rooted = cc sends

pub is_sender : (row : RowView) (sender : ℕ) → IsFine row → sender < length row → sends_blocks (first_of row).kind ≡ true → ((fields_of (first_of row).kind).root ≡ true → (first_of row).root ≡ Some sender) → IsSender row sender
is_sender row sender fine l kind rooted =
    let agreed = fine.with.each sender l in
    let root : (fields_of (post_at row sender).kind).root ≡ true → is_root sender (post_at row sender) ≡ true = λ has. ap (λ (o : Option ℕ). option_map_or (λ root. root == sender) o false) (agreed.root ∙ rooted (sym (ap (λ (k : Kind). (fields_of k).root) agreed.kind) ∙ has)) ∙ eq-eqb sender sender refl in
    record {
      kind = kind;
      each = sends_each fine.topology (post_at row sender) (length row) sender agreed.fit (post_at row sender).kind refl (ap sends_blocks agreed.kind ∙ kind) root;
    }
