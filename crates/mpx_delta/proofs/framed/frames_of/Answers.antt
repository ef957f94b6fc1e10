-- The frame of the board, or those of its parts.
use Rattle.std.proofs.Common.{◌≤◌, [], ◌∷◌, refl, sym, subst}
use Rattle.std.specs.Prelude.{All, IfSome}
use Rattle.std.proofs.lemmas.List.Elements.{All-cons, All-nil}
use Rattle.mpx_board.specs.Looks.{look, parts_of}
use Rattle.mpx_format.specs.Decoding.{Spells}
use Rattle.mpx_format.specs.Encoding.{length_told}
use Rattle.mpx_format.specs.declared.versions.Version.TheVariants.{Two}
use Rattle.mpx_delta.specs.Facts.{OnlyFactsOf}
use Rattle.mpx_delta.proofs.Joining.{one_join}
use Rattle.mpx_delta.proofs.Framing.{fit_more}
use Rattle.mpx_delta.proofs.framed.frames_of.Goals as goal

pub all_frames-requires : goal.all_frames-requires
all_frames-requires c = subst (All (λ board. length_told (parts_of board) ≤ 1048576)) (sym c.deref.ensures.value) (fit_more c.args.limit 1048576 c.in_ok-parts.parts.items c.requires.most c.in_ok-parts.ensures.fit)

pub returns : goal.returns
returns c =
    let board = parts_of c.args.board.now in
    record {
      parts = c.args.board.now ∷ [];
      facts = All-cons (λ part. OnlyFactsOf (look part) (look c.args.board.now)) c.args.board.now [] (λ f has. has) (All-nil (λ part. OnlyFactsOf (look part) (look c.args.board.now)));
      fit = All-cons (λ part. length_told (parts_of part) ≤ c.args.limit) c.args.board.now [] (subst (λ o. IfSome o (λ frame. length_told board ≤ c.args.limit)) c.in-Some.is c.in_ok-frame.ensures.fits) (All-nil (λ part. length_told (parts_of part) ≤ c.args.limit));
      join = one_join c.args.board.now c.args.board.now refl;
      few = tt;
      spelled = rw (c.in_ok-push.ensures.items, c.new-made.ensures.items) (subst (λ o. IfSome o (λ frame. Spells Two frame board)) c.in-Some.is c.in_ok-frame.ensures.spelled, tt);
    }
