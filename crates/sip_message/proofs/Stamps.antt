-- An IP address is a parameter's value, and a stamp doesn't change the branch.
use Rattle.std.proofs.Common.{◌≡◌, ℕ, ◌<◌, ◌^◌, Bool, true, false, cond, not, List, [], ◌∷◌, ◌++◌, length, Some, None, refl, sym, ap, ◌∙◌, IsTrue, codes, decimal, slice_index, arith, length-append}
use Rattle.std.specs.List.{list_all}
use Rattle.std.specs.Char.{is_ascii_digit}
use Rattle.std.specs.Str.{str_eq_ignore_ascii_case, str_to_ascii_lowercase, bytes_eq}
use Rattle.std.proofs.lemmas.List.Folds.{list_all-append}
use Rattle.std.proofs.lemmas.Slice.Eq.{bytes_eq-Decides}
use Rattle.std.proofs.lemmas.Bool.{and_from, false_from_ne_true, or_right}
use Rattle.std.proofs.lemmas.Fmt.{decimal_nonempty}
use Rattle.sip_text.proofs.Numerals.{decimal_digits}
use Rattle.sip_text.proofs.Runs.{run_from_all}
use Rattle.sip_grammar.specs.declared.parameter.Parameter.{Parameter}
use Rattle.sip_message.specs.declared.via.Via.{Via}
use Rattle.sip_text.specs.Parameter.{is_value_byte, is_value_word, is_parameter_value}
use Rattle.sip_text.specs.Quoted.{is_quoted}
use Rattle.sip_message.specs.Ip.{ip_text}
use Rattle.sip_grammar.specs.Parameters.{parameter_named, value_named, value_or_nothing}
use Rattle.sip_message.specs.Via.{branch_of, has_cookie, are_vias, with_top_parameters, first_branch}
use Rattle.std.specs.List.{slice_get}
use Rattle.std.proofs.lemmas.Option.{same_Some}
use Rattle.sip_message.specs.Source.{with_value, asks_port, with_received, with_port, stamped_parameters, stamped_via}
use Rattle.sip_message.specs.declared.addr.Addr.{Addr}
use Rattle.sip_grammar.proofs.Bytes.{none_of, all_weaker}

digit_value_byte : (b : ℕ) → is_ascii_digit b ≡ true → is_value_byte b ≡ true
unfolding is_value_byte
digit_value_byte b h = ap not (none_of is_ascii_digit (codes " \t\r\n;,<>\"") b refl h)

-- a test that digits pass
abbrev pub PassesDigits : (ℕ → Bool) → Type 0
PassesDigits test = (b : ℕ) → is_ascii_digit b ≡ true → test b ≡ true

pub both : (test : ℕ → Bool) (xs ys : List ℕ) → list_all test xs ≡ true → list_all test ys ≡ true
    → list_all test (xs ++ ys) ≡ true
both test xs ys p q = list_all-append test xs ys ∙ and_from _ _ p q

pub number : (test : ℕ → Bool) → PassesDigits test → (n : ℕ) → n < 2 ^ 64
    → list_all test (decimal n) ≡ true
number test digits n fits =
    all_weaker is_ascii_digit test digits (decimal n) (decimal_digits n fits)

pub ip_passes : (test : ℕ → Bool) → PassesDigits test → list_all test (codes ".") ≡ true
    → (ip : List ℕ) → slice_index ip 0 < 256 → slice_index ip 1 < 256 → slice_index ip 2 < 256
    → slice_index ip 3 < 256 → list_all test (ip_text ip) ≡ true
ip_passes test digits dot ip p q r s =
    both test _ _ (both test _ _ (both test _ _
    (both test _ _ (both test _ _ (both test _ _ (number test digits _ (omega arith)) dot)
    (number test digits _ (omega arith))) dot) (number test digits _ (omega arith))) dot)
    (number test digits _ (omega arith))

more : (xs ys : List ℕ) → 0 < length ys → 0 < length (xs ++ ys)
more xs ys some = let e = length-append xs ys in omega arith

pub ip_nonempty : (ip : List ℕ) → slice_index ip 3 < 256 → 0 < length (ip_text ip)
ip_nonempty ip s = more _ (decimal (slice_index ip 3))
    (decimal_nonempty (slice_index ip 3) (omega arith))

pub ip_is_value : (ip : List ℕ) → slice_index ip 0 < 256 → slice_index ip 1 < 256
    → slice_index ip 2 < 256 → slice_index ip 3 < 256 → IsTrue (is_parameter_value (ip_text ip))
unfolding is_parameter_value is_value_word is_value_byte
ip_is_value ip p q r s =
    or_right (is_quoted (ip_text ip)) _
    (run_from_all is_value_byte (ip_text ip) (ip_nonempty ip s)
    (ip_passes is_value_byte digit_value_byte refl ip p q r s))

-- no name equals both of two different names
not_both : (name a b : List ℕ) → (str_to_ascii_lowercase a ≡ str_to_ascii_lowercase b → ⊥)
    → str_eq_ignore_ascii_case name a ≡ true → str_eq_ignore_ascii_case name b ≡ false
not_both name a b differ is = false_from_ne_true _
    (λ other. differ (sym ((bytes_eq-Decides (str_to_ascii_lowercase name)
    (str_to_ascii_lowercase a)).0 is)
    ∙ (bytes_eq-Decides (str_to_ascii_lowercase name) (str_to_ascii_lowercase b)).0 other))

abbrev branch : List ℕ
branch = codes "branch"

-- a name that isn't `branch`
pub record IsOtherName (name : List ℕ) : Type 0 where
  pub differ : str_to_ascii_lowercase name ≡ str_to_ascii_lowercase branch → ⊥

pub received_name : IsOtherName (codes "received")
received_name = record { differ = λ e. absurd cc }

pub port_name : IsOtherName (codes "rport")
port_name = record { differ = λ e. absurd cc }

found_here : (name : List ℕ) → IsOtherName name
    → (p : Parameter) (text : List ℕ) (ps : List Parameter)
    → str_eq_ignore_ascii_case p.name name ≡ true
    → value_named branch ((record { name = p.name; value = Some text }) ∷ ps)
    ≡ value_named branch (p ∷ ps)
unfolding value_named
found_here name other p text ps is =
    let no_branch = not_both p.name name branch other.differ is in
    rw (no_branch) refl

further : (p : Parameter) (others ps : List Parameter)
    → value_named branch others ≡ value_named branch ps
    → value_named branch (p ∷ others) ≡ value_named branch (p ∷ ps)
unfolding value_named
further p others ps same = by (str_eq_ignore_ascii_case p.name branch)
  where
    by : (r : Bool) → value_or_nothing (cond r (Some p) (parameter_named branch others))
        ≡ value_or_nothing (cond r (Some p) (parameter_named branch ps))
    by true = refl
    by false = same

chosen : (name : List ℕ) → IsOtherName name
    → (p : Parameter) (text : List ℕ) (ps : List Parameter) (r : Bool)
    → str_eq_ignore_ascii_case p.name name ≡ r
    → value_named branch (with_value name text ps) ≡ value_named branch ps
    → value_named branch (cond r ((record { name = p.name; value = Some text }) ∷ ps)
    (p ∷ with_value name text ps)) ≡ value_named branch (p ∷ ps)
chosen name other p text ps true is same = found_here name other p text ps is
chosen name other p text ps false is same = further p (with_value name text ps) ps same

nothing_by : (name text : List ℕ) (r : Bool) → str_eq_ignore_ascii_case name branch ≡ r
    → (r ≡ true → ⊥) → value_or_nothing
    (cond r (Some (record { name = name; value = Some text })) None) ≡ []
nothing_by name text true is differ = absurd (differ refl)
nothing_by name text false is differ = refl

nothing_there : (name : List ℕ) → IsOtherName name → (text : List ℕ)
    → value_named branch (with_value name text []) ≡ value_named branch []
unfolding value_named
nothing_there name other text =
    nothing_by name text (str_eq_ignore_ascii_case name branch) refl
    (λ e. other.differ ((bytes_eq-Decides (str_to_ascii_lowercase name)
    (str_to_ascii_lowercase branch)).0 e))

pub branch_stays : (name : List ℕ) → IsOtherName name
    → (text : List ℕ) (parameters : List Parameter)
    → value_named branch (with_value name text parameters) ≡ value_named branch parameters
branch_stays name other text [] = nothing_there name other text
branch_stays name other text (p ∷ ps) =
    chosen name other p text ps (str_eq_ignore_ascii_case p.name name) refl
    (branch_stays name other text ps)

branch_by : (source : Addr) (via : Via) (r s : Bool)
    → value_named branch (cond r (with_received source (with_port source via.parameters))
    (cond s via.parameters (with_received source via.parameters)))
    ≡ value_named branch via.parameters
branch_by source via true s =
    branch_stays (codes "received") received_name (ip_text source.ip)
    (with_port source via.parameters)
    ∙ branch_stays (codes "rport") port_name (decimal source.port) via.parameters
branch_by source via false true = refl
branch_by source via false false =
    branch_stays (codes "received") received_name (ip_text source.ip) via.parameters

branch_kept : (source : Addr) (via : Via) → branch_of (stamped_via source via) ≡ branch_of via
unfolding stamped_parameters
branch_kept source via =
    branch_by source via (asks_port via) (bytes_eq via.host (ip_text source.ip))

-- other parameters with the same branch
pub kept_top : (vias : List Via) (parameters : List Parameter)
    → value_named branch parameters ≡ first_branch vias → IsTrue (are_vias vias)
    → IsTrue (are_vias (with_top_parameters vias parameters))
unfolding are_vias
kept_top [] parameters same h = h
kept_top (via ∷ vias) parameters same h = ap has_cookie same ∙ h

-- a stamp doesn't change the branch
pub stamp_leaves : (source : Addr) (vias : List Via) (via : Via) → slice_get vias 0 ≡ Some via
    → value_named branch (stamped_parameters source via) ≡ first_branch vias
stamp_leaves source [] via e = absurd cc
stamp_leaves source (first ∷ vias) via e =
    branch_kept source via ∙ ap branch_of (sym (same_Some first via e))

-- a port is a parameter's value
pub port_is_value : (n : ℕ) → n < 2 ^ 16 → IsTrue (is_parameter_value (decimal n))
unfolding is_parameter_value is_value_word
port_is_value n lt =
    or_right (is_quoted (decimal n)) _
    (run_from_all is_value_byte (decimal n) (decimal_nonempty n (omega arith))
    (number is_value_byte digit_value_byte n (omega arith)))
