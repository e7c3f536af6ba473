use Rattle.std.proofs.Common.{List, ℕ, ◌∙◌, ap, subst, sym}
use Rattle.zarrs_codec_leaf.specs.Sources.{IsWindow, window_bytes}
use Rattle.zarrs_codec_chain.proofs.stored.Stored.lent.Goals as goal

pub slice-requires : goal.slice-requires
slice-requires g c = subst (λ (l : List ℕ). IsWindow c.args.self.now.window l) (sym c.in_ok-bytes.ensures.lends.all) c.args.self.now.within

pub returns : goal.returns
returns g c = c.slice.ensures ∙ ap (window_bytes c.args.self.now.window) c.in_ok-bytes.ensures.lends.all
