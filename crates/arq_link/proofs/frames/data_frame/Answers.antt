use Rattle.std.proofs.Common.{◌∙◌, ap, rules}
use Rattle.arq_link.specs.Endpoint.{Data}
use Rattle.arq_link.specs.Frames.{frame_of}
use Rattle.arq_link.proofs.FrameLaws.{frame_of-frame_bytes}
use Rattle.arq_link.proofs.frames.data_frame.Goals as goal

pub returns-clause-is : goal.returns-clause-is
returns-clause-is c = search rules

pub returns-clause-back : goal.returns-clause-back
returns-clause-back c =
    ap frame_of (returns-clause-is c)
    ∙ frame_of-frame_bytes (Data c.args.sender c.args.number c.args.payload.now) (c.ranges.sender.fits, c.ranges.number.fits)
