use Rattle.std.proofs.Common.{◌≡◌, ◌∙◌, ℕ, ◌+◌, [], ◌∷◌, ◌++◌, List, ℤ, ap, add-one, append-nil, refl}
use Rattle.std.specs.List.{flat_map}
use Rattle.std.proofs.lemmas.List.Concat.{flat_map-append}
use Rattle.mpx_num.specs.ItemList.{ItemList}
use Rattle.mpx_birth.specs.Births.{upto}
use Rattle.mpx_move.specs.Moves.{block_for}
use Rattle.mpx_move.proofs.moves.blocks_value.Goals as goal

-- one more sender
flat_map_upto : (f : ℕ → List ℤ) (n : ℕ) → flat_map f (upto n) ++ f n ≡ flat_map f (upto (n + 1))
flat_map_upto f n = rw (add-one, flat_map-append f (upto n) (n ∷ []), append-nil) refl

pub loop-sender-preserved : goal.loop-sender-preserved
loop-sender-preserved c = record {
  ty = ap (λ (items : ItemList). items.ty) c.in_ok-append_block.ensures ∙ c.loop-sender.invariant.ty;
  nums = ap (λ (items : ItemList). items.nums) c.in_ok-append_block.ensures ∙ ap (λ (nums : List ℤ). nums ++ block_for c.args.row.now c.args.receiver c.loop-sender.sender) c.loop-sender.invariant.nums ∙ flat_map_upto _ c.loop-sender.sender;
}
