-- Terms that vary and live patterns, one form at a time.
use Rattle.std.specs.Prelude.{◌≡◌, true, false, if◌then◌else◌}
use Rattle.std.proofs.Common.{ap, ◌∙◌}
use Rattle.da_lang.specs.declared.query.Pattern.TheVariants as pattern
use Rattle.da_lang.specs.declared.query.Term.{Term}
use Rattle.da_lang.specs.Live.{varies, live_pattern}
use Rattle.da_lang.proofs.LiveLaws.{varies-Const, varies-Me, varies-Slot, varies-Part, varies-Tuple, varies-Foreign, live-Any, live-Bind, live-Const, live-Me, live-Equal, live-Tuple}

pub ruleset term_rules = (varies-Const, varies-Me, varies-Slot, varies-Part, varies-Tuple, varies-Foreign)

pub ruleset pattern_rules = (live-Any, live-Bind, live-Const, live-Me, live-Tuple)

pub live_varies : (t : Term) → varies t ≡ true → live_pattern (pattern.Equal t) ≡ pattern.Bind
live_varies t e = live-Equal t ∙ ap (λ b. if b then pattern.Bind else pattern.Equal t) e

pub live_steady : (t : Term) → varies t ≡ false → live_pattern (pattern.Equal t) ≡ pattern.Equal t
live_steady t e = live-Equal t ∙ ap (λ b. if b then pattern.Bind else pattern.Equal t) e

pub ruleset equal_rules = (live_varies, live_steady)
