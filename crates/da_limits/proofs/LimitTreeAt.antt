-- What limits a tree exceeds outside its classes, one by one.
use Rattle.std.specs.Prelude.{◌≡◌, refl, ℕ, suc, ◌+◌, ◌<◌, ◌≤◌, min, nat_lt, ◌||◌, Bool, true, false, if◌then◌else◌, List, [], ◌∷◌, length, map, flat_map, drop, Option}
use Rattle.std.specs.List.{list_any}
use Rattle.std.proofs.Common.{◌∙◌, ap, sym, arith, get_or, take, ◌-◌, length-drop}
use Rattle.std.proofs.lemmas.List.{take_all}
use Rattle.std.proofs.lemmas.Bool.{lt-ltb, le-ltb}
use Rattle.da_lang.specs.declared.refusal.LimitKind.TheVariants as limit
use Rattle.da_lang.specs.declared.tree.ClassTree.{ClassTree}
use Rattle.da_lang.specs.declared.tree.MainLine.{MainLine}
use Rattle.da_lang.specs.declared.tree.MessageDecl.{MessageDecl}
use Rattle.da_lang.specs.Limits.{line_if, line_of_main, most_classes, most_parts, most_processes, parts_in_main, parts_in_message, processes_over, wide}
use Rattle.da_lang.specs.Resolution.{made_count}
use Rattle.da_lang.specs.Written.{type_width}
use Rattle.da_limits.specs.Capped.{capped}
use Rattle.da_limits.specs.LimitLines.{told_at}
use Rattle.da_bodies.specs.Telling.{LimitRefusal as Refusal}
use Rattle.da_limits.specs.LimitTree.{main_lines, message_lines}
use Rattle.da_limits.proofs.ClassMembersAt.{dropped, dropped_all}
use Rattle.da_limits.proofs.LimitLinesAt.{classes-is, processes-is, told-none, told-one}
use Rattle.da_limits.proofs.LimitWalkAt.{wide-capped}

-- classes past the limit
few : (cs : List ClassTree) (n : ℕ) → length cs ≤ n → map (λ (c : ClassTree). c.line) (drop n cs) ≡ []
few cs n within = ap (map (λ (c : ClassTree). c.line)) (dropped_all cs n within)

pub classes-few : (cs : List ClassTree) (found : Option Refusal) → length cs ≤ 32 → told_at limit.Classes found (map (λ (c : ClassTree). c.line) (drop most_classes cs)) ≡ found
classes-few cs found within = ap (λ n. told_at limit.Classes found (map (λ (c : ClassTree). c.line) (drop n cs))) classes-is ∙ ap (told_at limit.Classes found) (few cs 32 within) ∙ told-none limit.Classes found

pub ruleset class_rules = (classes-is, classes-few)

-- processes, where so many were made before
abbrev Over : ℕ → List MainLine → List ℕ → Type 0
Over made ls lines = processes_over made ls ≡ lines

over_by : (made : ℕ) (l : MainLine) (ls : List MainLine) (b : Bool) → nat_lt most_processes (made + made_count l) ≡ b → processes_over made (l ∷ ls) ≡ (if b then line_of_main l ∷ [] else processes_over (made + made_count l) ls)
over_by made l ls b is = ap (λ c. if c then line_of_main l ∷ [] else processes_over (made + made_count l) ls) is

pub processes_here : (ls : List MainLine) (i : ℕ) (l : MainLine) (before made : ℕ) → i < length ls → l ≡ get_or ls i l → made ≡ min (before + made_count l) 18446744073709551615 → 64 < made → processes_over before (drop i ls) ≡ processes_over 0 ls → processes_over 0 ls ≡ line_of_main l ∷ []
processes_here ls i l before made inside here grown past so_far =
    let over : nat_lt most_processes (before + made_count l) ≡ true = ap (λ m. nat_lt m (before + made_count l)) processes-is ∙ lt-ltb 64 (before + made_count l) (omega (arith, grown, past)) in
    sym so_far ∙ ap (processes_over before) (dropped ls i l inside here) ∙ over_by before l (drop (i + 1) ls) true over

pub processes_step : (ls : List MainLine) (i : ℕ) (l : MainLine) (before made : ℕ) → i < length ls → l ≡ get_or ls i l → made ≡ min (before + made_count l) 18446744073709551615 → made ≤ 64 → processes_over before (drop i ls) ≡ processes_over 0 ls → processes_over made (drop (i + 1) ls) ≡ processes_over 0 ls
processes_step ls i l before made inside here grown within so_far =
    let exact : made ≡ before + made_count l = omega (arith, grown, within) in
    let under : nat_lt most_processes (before + made_count l) ≡ false = ap (λ m. nat_lt m (before + made_count l)) processes-is ∙ le-ltb 64 (before + made_count l) (omega (arith, grown, within)) in
    ap (λ n. processes_over n (drop (i + 1) ls)) exact ∙ sym (over_by before l (drop (i + 1) ls) false under) ∙ ap (processes_over before) (sym (dropped ls i l inside here)) ∙ so_far

pub processes_end : (ls : List MainLine) (i made : ℕ) → length ls ≤ i → processes_over made (drop i ls) ≡ processes_over 0 ls → [] ≡ processes_over 0 ls
processes_end ls i made end so_far = ap (processes_over made) (sym (dropped_all ls i end)) ∙ so_far

-- messages
pub message-of : (x : MessageDecl) → parts_in_message x ≡ line_if (nat_lt most_parts (capped (capped (length x.parts) + 1)) || list_any (λ ty. wide (type_width ty)) x.parts) x.line
message-of x =
    let same : capped (capped (length x.parts) + 1) ≡ capped (suc (length x.parts)) = omega arith in
    ap (λ b. line_if (b || list_any (λ ty. wide (type_width ty)) x.parts) x.line) (sym (ap (nat_lt most_parts) same ∙ wide-capped (suc (length x.parts))))

pub ruleset message_rules = (message-of)

-- lines of `main`
pub main_lines-is : (ls : List MainLine) → flat_map parts_in_main ls ≡ main_lines ls
unfolding main_lines
main_lines-is ls = refl

pub message_lines-is : (ms : List MessageDecl) → flat_map parts_in_message ms ≡ message_lines ms
unfolding message_lines
message_lines-is ms = refl

abbrev pub line_of_class : ClassTree → List ℕ
line_of_class c = c.line ∷ []

pub class_lines : (cs : List ClassTree) → flat_map line_of_class cs ≡ map (λ (c : ClassTree). c.line) cs
class_lines [] = refl
class_lines (c ∷ cs) = ap (λ ls. c.line ∷ ls) (class_lines cs)

abbrev pub counted : ℕ → ℕ → ℕ
counted made count = min (made + count) 18446744073709551615

pub classes_rest : (cs : List ClassTree) → take (length cs - 32) (drop 32 cs) ≡ drop most_classes cs
classes_rest cs = take_all (length cs - 32) (drop 32 cs) (omega (arith, length-drop 32 cs)) ∙ ap (λ n. drop n cs) (sym classes-is)
