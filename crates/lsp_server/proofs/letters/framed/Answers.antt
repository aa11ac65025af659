use Rattle.std.proofs.Common.{◌∙◌, ap, ◌++◌}
use Rattle.lsp_frames.specs.Frames.{frame}
use Rattle.lsp_server.proofs.letters.framed.Goals as goal

pub returns : goal.returns
returns c = (
  c.in_ok-text.text,
  c.in_ok-put_frame.ensures ∙ ap (λ xs. xs ++ frame c.as_slice.result.now) c.new-bytes.ensures ∙ ap frame c.as_slice.ensures,
  c.in_ok-text.ensures,
)
