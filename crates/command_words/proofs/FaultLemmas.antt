-- No check behind the look answers that the words are refused as words.
use Rattle.std.proofs.Common.{◌≡◌, ◌∙◌, ◌↔◌, Bool, true, false, Option, Some, None, Result, Ok, Err, sym, ap, inl, inr}
use Rattle.std.specs.Option.{ok_or}
use Rattle.command_words.specs.declared.command.Command.{Command}
use Rattle.command_words.specs.declared.option_name.OptionName.{OptionName}
use Rattle.command_words.specs.declared.word_fault.WordFault.{WordFault}
use Rattle.command_words.specs.declared.word_fault.WordFault.TheVariants as fault
use Rattle.command_words.specs.Reading.{Answers, Checked, Given, and_then, option_or, read_buckets, read_command, read_cores, read_key, read_limit, read_mode, read_options, read_orders, read_packets, read_pool, read_round, read_serial, read_start, read_values, read_work}
use Rattle.command_words.specs.Words.{Text}

abbrev NeverWords : {X : Type 0} → Checked X → Type 0
NeverWords r = r ≡ Err fault.Words → ⊥

of_fault : {X : Type 0} (e : WordFault) → (e ≡ fault.Words → ⊥) → NeverWords {X = X} (Err e)
of_fault e other h = other (cc)

of_value : {X : Type 0} (x : X) → NeverWords (Ok x)
of_value x h = let no : Ok x ≡ Err fault.Words = h in cc

chain : {X Y : Type 0} (r : Checked X) (f : X → Checked Y) → NeverWords r → ((x : X) → NeverWords (f x)) → NeverWords (and_then r f)
chain (Ok x) f first next = next x
chain (Err e) f first next = of_fault e (λ same. first (ap (λ (e : WordFault). Err e) same))

of_option : {X : Type 0} (e : WordFault) (o : Option X) → (e ≡ fault.Words → ⊥) → NeverWords (ok_or o e)
of_option e None other = of_fault e other
of_option e (Some x) other = of_value x

by_option : {X : Type 0} (o : OptionName) (default : X) (read : Text → Option X) (t : Option Text) → NeverWords (option_or o default read t)
by_option o default read None = of_value default
by_option o default read (Some t) = of_option (fault.Option o) (read t) (λ same. cc)

by_options : (g : Given) → NeverWords (read_options g)
by_options g =
    chain (read_cores g) _ (search by_option) (λ cores.
    chain (read_buckets g) _ (search by_option) (λ buckets.
    chain (read_key g) _ (search by_option) (λ key.
    chain (read_start cores buckets g) _ (search by_option) (λ start.
    chain (read_work g) _ (search by_option) (λ work.
    chain (read_orders cores buckets g) _ (search by_option) (λ moves.
    chain (read_round g) _ (search by_option) (λ round.
    chain (read_limit g) _ (search by_option) (λ limit.
    chain (read_pool g) _ (search by_option) (λ pool.
    chain (read_packets g) _ (search by_option) (λ packets. of_value _))))))))))

by_command : (g : Given) → NeverWords (read_command g)
by_command g =
    chain (read_mode g) _ (of_option fault.Mode _ (λ same. cc)) (λ mode.
    chain (read_values mode g) _ (of_option fault.Values _ (λ same. cc)) (λ values.
    chain (read_options g) _ (by_options g) (λ options.
    chain (read_serial g) _ (search by_option) (λ serial. of_value _))))

-- behind the look the answer is another
pub not_words : (g : Given) (refused : Bool) (result : Result Command WordFault) → refused ≡ false → Answers (read_command g) result → (result ≡ Err fault.Words) ↔ (refused ≡ true)
not_words g refused result passed answers = (λ h. absurd (go result answers h), λ h. let no : false ≡ true = sym passed ∙ h in cc)
  where
    go : (r : Result Command WordFault) → Answers (read_command g) r → r ≡ Err fault.Words → ⊥
    go (Ok c) a h = of_value c h
    go (Err e) (inl memory) h = let same : e ≡ fault.Words = cc in let no : fault.NoMemory ≡ fault.Words = sym memory ∙ same in cc
    go (Err e) (inr read) h = by_command g (read ∙ h)
