use Rattle.std.proofs.Common.{ap, refl, subst, ◌≡◌, ◌∙◌, true, false, map, Some, None, Option, List, is_some}
use Rattle.std.specs.String.{string_bytes}
use Rattle.clap.specs.Words.{App, HasMatchesOf, app_of, takes}
use Rattle.command_words.specs.Made.{made_app}
use Rattle.command_words.specs.Words.{Part, Text, parts_of}
use Rattle.command_words.proofs.Accepted.{gives, taken}
use Rattle.command_words.proofs.parse.parse.Goals as goal

taken_if : (words : List Text) → is_some (parts_of words) ≡ true → takes made_app words ≡ true
taken_if words h = go (parts_of words) refl
  where
    go : (o : Option (List Part)) → parts_of words ≡ o → takes made_app words ≡ true
    go None e = let no : false ≡ true = rw e at h in cc
    go (Some ps) e = taken words ps e

pub unreachable-requires : goal.unreachable-requires
unreachable-requires c =
    let words = map string_bytes c.args.words.now in
    let ok : takes (app_of c.in-Ok.command) words ≡ true = ap (λ (a : App). takes a words) c.in-Ok.ensures ∙ taken_if words c.requires in
    c.in_default.not-OutOfMemory (c.kind.ensures ∙ c.in-Err-try_get_matches_from.ensures.passes ok)

pub returns-in-Ok-try_get_matches_from : goal.returns-in-Ok-try_get_matches_from
returns-in-Ok-try_get_matches_from c = λ ps h.
    let words = map string_bytes c.args.words.now in
    let m = c.in-Ok-try_get_matches_from.matches in
    let has : HasMatchesOf made_app words m = subst (λ (a : App). HasMatchesOf a words m) c.in-Ok.ensures c.in-Ok-try_get_matches_from.ensures.matches in
    gives words m ps has h
