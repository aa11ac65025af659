-- Lines that are passed one after the other.
use Rattle.std.proofs.Common.{◌≡◌, refl, sym, ◌∙◌, ap, ℕ, ◌≤◌, List, [], ◌∷◌, ◌++◌, length, arith, append_assoc, append-nil}
use Rattle.std.specs.List.{flat_map}
use Rattle.std.specs.Str.Lines.{lines}
use Rattle.trace_page.specs.LastLine.{last_of, last_or}
use Rattle.trace_page.specs.PageText.{program_line}

pub nothing_left : (rest : List ℕ) → length rest ≤ 0 → rest ≡ []
nothing_left [] none = refl
nothing_left (b ∷ rest) none = absurd (omega (arith, none))

pub line_put : (old new line rest others whole : List ℕ) → lines rest ≡ line ∷ lines others → new ≡ old ++ program_line line → old ++ flat_map program_line (lines rest) ≡ whole
    → new ++ flat_map program_line (lines others) ≡ whole
line_put old new line rest others whole cut put is =
    ap (λ x. x ++ flat_map program_line (lines others)) put ∙ append_assoc old (program_line line) (flat_map program_line (lines others))
    ∙ ap (λ ls. old ++ flat_map program_line ls) (sym cut) ∙ is

pub lines_put : (out rest whole : List ℕ) → length rest ≤ 0 → out ++ flat_map program_line (lines rest) ≡ whole → out ≡ whole
lines_put out rest whole none is = sym (append-nil out) ∙ ap (λ r. out ++ flat_map program_line (lines r)) (sym (nothing_left rest none)) ∙ is

pub last_there : (text last rest : List ℕ) → length rest ≤ 0 → last_of (lines text) ≡ last_or last (lines rest) → last ≡ last_of (lines text)
last_there text last rest none is = ap (λ r. last_or last (lines r)) (sym (nothing_left rest none)) ∙ sym is
