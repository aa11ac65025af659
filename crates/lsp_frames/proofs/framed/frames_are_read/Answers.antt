use Rattle.lsp_frames.proofs.FrameLaw.{frames_are_read}
use Rattle.lsp_frames.proofs.framed.frames_are_read.Goals as goal

pub returns : goal.returns
returns c = frames_are_read
