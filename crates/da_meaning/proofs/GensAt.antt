-- Generators, one layer at a time, and one generator more.
use Rattle.std.proofs.Common.{◌≡◌, ◌∙◌, ap, sym, refl, ℕ, ◌+◌, ◌<◌, List, [], ◌∷◌, ◌++◌, map, length, get_or, take}
use Rattle.std.specs.Option.{option_map}
use Rattle.da_lang.specs.declared.query.RGen.{RGen}
use Rattle.da_lang.specs.declared.tree.GenTree.{GenTree, out-GenTree}
use Rattle.da_lang.specs.declared.tree.PatternTree.{PatternTree}
use Rattle.da_lang.specs.ExprMeaning.{Meaning, Generator, scope_after_gens, generator, gen_meant, gens_in, matching, peer_binds, peer_of, peer_pattern, source_meant, with_row}
use Rattle.da_lang.specs.Scopes.{Scope}
use Rattle.da_lang.proofs.MeantAt.{generator-of, peer_of-From, peer_of-To}
use Rattle.da_meaning.proofs.SlotScopeLaws.{with_row-append}
use Rattle.da_lang.proofs.Taken.{taken}

generator_is : (g : GenTree) → generator g ≡ gen_meant (record { message = matching (out-GenTree g).message; peer = option_map peer_of (out-GenTree g).peer; source = (out-GenTree g).source })
generator_is g = let v = out-GenTree g in generator-of v.message v.peer v.source

pub gen-at : (g : GenTree) (scope : Scope Meaning)
    → (generator g).gen_ scope ≡ record {
      source = source_meant (with_row ((matching (out-GenTree g).message).binds ++ peer_binds (option_map peer_of (out-GenTree g).peer)) scope) (out-GenTree g).source;
      message = (matching (out-GenTree g).message).pattern scope;
      peer = peer_pattern (out-GenTree g).source (with_row (matching (out-GenTree g).message).binds scope) (option_map peer_of (out-GenTree g).peer);
    }
gen-at g scope = ap (λ (h : Generator). h.gen_ scope) (generator_is g)

pub binds-at : (g : GenTree) → (generator g).binds ≡ (matching (out-GenTree g).message).binds ++ peer_binds (option_map peer_of (out-GenTree g).peer)
binds-at g = ap (λ (h : Generator). h.binds) (generator_is g)

pub ruleset gens_at = (gen-at, binds-at, with_row-append)

pub ruleset peers_at = (peer_of-From, peer_of-To)

-- one generator after others
pub behind-more : (gs : List GenTree) (g : GenTree) (scope : Scope Meaning) → scope_after_gens (map generator (gs ++ g ∷ [])) scope ≡ with_row (generator g).binds (scope_after_gens (map generator gs) scope)
behind-more [] g scope = refl
behind-more (h ∷ gs) g scope = behind-more gs g (with_row (generator h).binds scope)

pub gens_in-more : (gs : List GenTree) (g : GenTree) (scope : Scope Meaning)
    → gens_in (map generator (gs ++ g ∷ [])) scope ≡ gens_in (map generator gs) scope ++ (generator g).gen_ (scope_after_gens (map generator gs) scope) ∷ []
gens_in-more [] g scope = refl
gens_in-more (h ∷ gs) g scope = ap (λ others. (generator h).gen_ scope ∷ others) (gens_in-more gs g (with_row (generator h).binds scope))

-- a generator more of a list: what was found, and the scope
pub gens_step : (gs : List GenTree) (i : ℕ) (g : GenTree) (before middle : Scope Meaning) (found more : List RGen) (r : RGen)
    → i < length gs → g ≡ get_or gs i g → found ≡ gens_in (map generator (take i gs)) before → middle ≡ scope_after_gens (map generator (take i gs)) before
    → r ≡ (generator g).gen_ middle → more ≡ found ++ r ∷ [] → more ≡ gens_in (map generator (take (i + 1) gs)) before
gens_step gs i g before middle found more r inside here so_far inner one grown =
    let next = taken gs i g inside here in
    let all = gens_in-more (take i gs) g before in
    cc

pub behind_step : (gs : List GenTree) (i : ℕ) (g : GenTree) (before middle after : Scope Meaning)
    → i < length gs → g ≡ get_or gs i g → middle ≡ scope_after_gens (map generator (take i gs)) before → after ≡ with_row (generator g).binds middle → after ≡ scope_after_gens (map generator (take (i + 1) gs)) before
behind_step gs i g before middle after inside here inner one =
    one ∙ ap (λ s. with_row (generator g).binds s) inner ∙ sym (behind-more (take i gs) g before) ∙ ap (λ hs. scope_after_gens (map generator hs) before) (sym (taken gs i g inside here))
