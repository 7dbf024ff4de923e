-- What is written for an address, alone or in a list, is read as that address, and so is what is
-- written for a Contact.
use Rattle.std.proofs.Common.{◌≡◌, ℕ, Bool, true, false, cond, not, ◌&&◌, ◌||◌, List, [], ◌∷◌, ◌++◌, Option, Some, None, length, codes, eqb-true, refl, sym, ap, subst, ◌∙◌, append_assoc}
use Rattle.std.specs.Prelude.{nat_eq, option_and_then}
use Rattle.std.specs.List.{AllByRecursion, list_all}
use Rattle.std.specs.Option.{option_map}
use Rattle.std.proofs.lemmas.Bool.{and_parts}
use Rattle.std.proofs.lemmas.List.{nil_from_length}
use Rattle.std.proofs.lemmas.Slice.Eq.{bytes_eq-Decides}
use Rattle.sip_text.specs.Character.{is_blank, is_line_byte}
use Rattle.sip_text.specs.Forms.{each, by_cut, both, told, split}
use Rattle.sip_text.specs.Quoted.{is_quoted}
use Rattle.sip_text.specs.Separator.{place_after}
use Rattle.sip_text.specs.Trimmed.{trimmed, trimmed_start, trimmed_end}
use Rattle.sip_text.specs.declared.separator.Separator.TheVariants.{Byte}
use Rattle.sip_text.specs.declared.separator.Place.TheVariants.{Plain, Bracketed}
use Rattle.sip_text.proofs.Ends.{trimmed_end-blank}
use Rattle.sip_text.proofs.Splits.{split_none}
use Rattle.sip_grammar.proofs.BlankEnds.{ends_kept}
use Rattle.sip_grammar.specs.DisplayText.{is_display_text_byte, is_display_text}
use Rattle.sip_grammar.specs.HeaderValue.{has_no_blank_ends, has_no_line_byte}
use Rattle.sip_grammar.specs.PartyDisplay.{is_party_display_byte, is_party_display}
use Rattle.sip_grammar.specs.Tag.{has_good_tag}
use Rattle.sip_grammar.specs.Uri.{is_uri_byte, is_uri}
use Rattle.sip_grammar.specs.declared.parameter.Parameter.{Parameter}
use Rattle.sip_message.specs.declared.name_addr.NameAddr.{NameAddr}
use Rattle.sip_message.specs.declared.party.Party.{Party}
use Rattle.sip_message.specs.Wildcard.{has_wildcard_uri, is_wildcard}
use Rattle.sip_message.specs.Written.{parameters_text, display_part, address_text, contact_text}
use Rattle.sip_header_values.specs.Address as address
use Rattle.sip_grammar.specs.ParameterValues.{all_parameters}
use Rattle.sip_message.specs.Rules.{IsParameter, IsParty, IsNameAddr}
use Rattle.sip_grammar.proofs.Blanks.{End, starts_full}
use Rattle.sip_grammar.proofs.Characters.{full_at}
use Rattle.sip_grammar.proofs.Cuts.{all_imply, run_all}
use Rattle.sip_grammar.proofs.Passing.{Passes, both_pass, place_append, cut_here, none_here, class_passes, comma_marks, quoted_begins, quoted_passes, quoted_plain}
use Rattle.sip_grammar.proofs.Pieces.{by_bool}
use Rattle.sip_grammar.proofs.WrittenBytes.{uri_solid, solid_line, solid_kept}
use Rattle.sip_grammar.proofs.TextEnds.{Good, full_cons, end_behind, kept_by, plain_both, end_after, passing_some, trimmed_some, Again, moved}
use Rattle.sip_grammar.proofs.WrittenParameters.{quoted_kept, quoted_trimmed, all_again, parameters_pass, parameters_plain, parameters_end}

-- ---- addresses

-- a display text, as it is written before a bracket
record Shown (is_display : List ℕ → Bool) (display : List ℕ) : Type 0 where
  pub passes : Passes (Byte 60) (display_part display)
  pub read : address.display_from is_display (display_part display) ≡ Some display
  pub plain : has_no_line_byte (display_part display) ≡ true
  pub starts : (text : List ℕ) → trimmed_start (display_part display ++ (60 ∷ text))
      ≡ display_part display ++ (60 ∷ text)

shown_by : (is_display : List ℕ → Bool) (b : ℕ) (bs : List ℕ) → is_display (b ∷ bs) ≡ true
    → Passes (Byte 60) (b ∷ bs) → trimmed (b ∷ bs) ≡ b ∷ bs → is_blank b ≡ false → End (b ∷ bs)
    → has_no_line_byte (b ∷ bs) ≡ true → Shown is_display (b ∷ bs)
shown_by is_display b bs is passes kept full end plain = record {
  passes = both_pass (Byte 60) (b ∷ bs) (32 ∷ []) passes refl;
  read = trimmed_one;
  plain = plain_both (b ∷ bs) (32 ∷ []) plain refl;
  starts = λ text. starts_full b ((bs ++ (32 ∷ [])) ++ (60 ∷ text)) full;
}
  where
    cut_end : trimmed ((b ∷ bs) ++ (32 ∷ [])) ≡ b ∷ bs
    cut_end = ap trimmed_end (starts_full b (bs ++ (32 ∷ [])) full)
        ∙ trimmed_end-blank (b ∷ bs) 32 refl ∙ end

    trimmed_one : address.display_from is_display ((b ∷ bs) ++ (32 ∷ [])) ≡ Some (b ∷ bs)
    trimmed_one = ap (λ (xs : List ℕ). cond (is_display xs) (Some xs) None) cut_end
        ∙ passing_some (is_display (b ∷ bs)) (b ∷ bs) is

-- a display text of plain bytes, or a quoted string
display_shown : (is_display : List ℕ → Bool) (test : ℕ → Bool) (b : ℕ) (bs : List ℕ)
    → test 60 ≡ false → test 34 ≡ false → test 13 ≡ false → test 10 ≡ false
    → is_display (b ∷ bs) ≡ true → (is_quoted (b ∷ bs)
    || (has_no_blank_ends (b ∷ bs) && list_all test (b ∷ bs))) ≡ true → Shown is_display (b ∷ bs)
display_shown is_display test b bs bracket quote cr lf is value =
    by_bool (is_quoted (b ∷ bs)) (λ r. is_quoted (b ∷ bs) ≡ r
    → (r || (has_no_blank_ends (b ∷ bs) && list_all test (b ∷ bs))) ≡ true
    → Shown is_display (b ∷ bs))
    (λ t e f. let begins = quoted_begins (b ∷ bs) e in
    let first : b ≡ 34 = same_first b 34 bs begins.0 begins.1 in
    shown_by is_display b bs is (quoted_passes 60 refl (b ∷ bs) e) (quoted_trimmed (b ∷ bs) e)
    (ap is_blank first) (quoted_kept (b ∷ bs) e) (quoted_plain (b ∷ bs) e))
    (λ t e f. let parts = and_parts (has_no_blank_ends (b ∷ bs)) (list_all test (b ∷ bs)) f in
    let ends = ends_kept b bs parts.0 in
    shown_by is_display b bs is (class_passes test 60 bracket quote bracket (b ∷ bs) parts.1)
    (kept_by b bs ends.0 ends.1) ends.0 ends.1
    (all_imply test (λ c. not (is_line_byte c))
    (λ c passes. rw (full_at test c 13 cr passes, full_at test c 10 lf passes) refl)
    (b ∷ bs) parts.1))
    refl value
  where
    same_first : (x y : ℕ) (xs ys : List ℕ) → x ∷ xs ≡ y ∷ ys → x ≡ y
    same_first x y xs ys e = cc

party_shown : (display : List ℕ) → is_party_display display ≡ true → Shown is_party_display display
unfolding is_party_display is_party_display_byte is_quoted
party_shown [] is = record { passes = refl; read = refl; plain = refl; starts = λ text. refl }
party_shown (b ∷ bs) is =
    display_shown is_party_display is_party_display_byte b bs refl refl refl refl is is

text_shown : (display : List ℕ) → is_display_text display ≡ true → Shown is_display_text display
unfolding is_display_text is_display_text_byte is_quoted
text_shown [] is = record { passes = refl; read = refl; plain = refl; starts = λ text. refl }
text_shown (b ∷ bs) is =
    display_shown is_display_text is_display_text_byte b bs refl refl refl refl is is

abbrev shown_text : List ℕ → List ℕ → List Parameter → List ℕ
shown_text display uri ps = display_part display ++ (60 ∷ (uri ++ (62 ∷ parameters_text ps)))

regroup : (d u q : List ℕ) → (((d ++ (60 ∷ [])) ++ u) ++ (62 ∷ [])) ++ q ≡ d
    ++ (60 ∷ (u ++ (62 ∷ q)))
regroup d u q =
    append_assoc ((d ++ (60 ∷ [])) ++ u) (62 ∷ []) q ∙ append_assoc (d ++ (60 ∷ [])) u (62 ∷ q)
    ∙ append_assoc d (60 ∷ []) (u ++ (62 ∷ q))

pub address_is : (display uri : List ℕ) (ps : List Parameter)
    → address_text display uri ps ≡ shown_text display uri ps
unfolding address_text
address_is display uri ps = regroup (display_part display) uri (parameters_text ps)

uri_passes : (uri : List ℕ) → is_uri uri ≡ true → Passes (Byte 62) uri
unfolding is_uri is_uri_byte
uri_passes uri is = class_passes is_uri_byte 62 refl refl refl uri (run_all is_uri_byte uri is)

bracketed_again : (uri : List ℕ) (ps : List Parameter) → is_uri uri ≡ true
    → AllByRecursion IsParameter ps
    → address.bracketed_from (uri ++ (62 ∷ parameters_text ps)) ≡ Some (uri, ps)
bracketed_again uri ps is all =
    ap (λ o. by_cut o (both address.uri_from all_parameters) None)
    (cut_here (Byte 62) uri 62 (parameters_text ps) (uri_passes uri is) refl)
    ∙ ap (λ o. option_and_then (λ x.
    option_and_then (λ y. Some (x, y)) (all_parameters (parameters_text ps))) o)
    (trimmed_some is_uri uri (solid_kept uri (uri_solid uri is)) is)
    ∙ ap (λ o. option_and_then (λ y. Some (uri, y)) o) (all_again ps all)

address_again : (is_display : List ℕ → Bool) (display uri : List ℕ) (ps : List Parameter)
    → Shown is_display display → is_uri uri ≡ true → AllByRecursion IsParameter ps
    → address.address_from is_display (shown_text display uri ps) ≡ Some (display, (uri, ps))
address_again is_display display uri ps shown is all =
    ap (λ o. by_cut o (both (address.display_from is_display) address.bracketed_from)
    (told (λ target. ([], target)) address.bare_from (shown_text display uri ps)))
    (cut_here (Byte 60) (display_part display) 60
    (uri ++ (62 ∷ parameters_text ps)) shown.passes refl)
    ∙ ap (λ o. option_and_then (λ x.
    option_and_then (λ y. Some (x, y))
    (address.bracketed_from (uri ++ (62 ∷ parameters_text ps)))) o) shown.read
    ∙ ap (λ o. option_and_then (λ y. Some (display, y)) o) (bracketed_again uri ps is all)

address_good : (is_display : List ℕ → Bool) (display uri : List ℕ) (ps : List Parameter)
    → Shown is_display display → is_uri uri ≡ true → AllByRecursion IsParameter ps
    → Good (shown_text display uri ps)
address_good is_display display uri ps shown is all =
    let bracketed : End (60 ∷ (uri ++ (62 ∷ parameters_text ps))) =
    ap (λ (xs : List ℕ). 60 ∷ xs) (end_after uri (62 ∷ parameters_text ps) (uri_solid uri is)
    (parameters_end (62 ∷ []) ps all refl)) in
    record {
      kept = ap trimmed_end (shown.starts (uri ++ (62 ∷ parameters_text ps)))
          ∙ end_behind (display_part display) (60 ∷ (uri ++ (62 ∷ parameters_text ps)))
          (full_cons 60 (uri ++ (62 ∷ parameters_text ps))) bracketed;
      plain = plain_both (display_part display)
          (60 ∷ (uri ++ (62 ∷ parameters_text ps))) shown.plain
          (plain_both uri (62 ∷ parameters_text ps) (solid_line uri (uri_solid uri is))
          (parameters_plain ps all));
    }

pub party_again : (party : Party) → IsParty party
    → Again address.party_from party (address_text party.display party.uri party.parameters)
party_again party is =
    let shown = party_shown party.display is.display in
    moved (address_is party.display party.uri party.parameters) (record {
      read = ap (λ o. option_map address.party_of
          (option_and_then (λ x. cond (has_good_tag x.1.1) (Some x) None) o))
          (address_again is_party_display party.display party.uri party.parameters shown is.uri
          is.parameters)
          ∙ ap (λ r. option_map address.party_of
          (cond r (Some (party.display, (party.uri, party.parameters))) None)) is.tag;
      good = address_good is_party_display party.display party.uri party.parameters shown is.uri
          is.parameters;
    })

-- ---- lists of addresses

uri_hidden : (uri : List ℕ) → list_all is_uri_byte uri ≡ true
    → place_after (Byte 44) Bracketed uri ≡ Some Bracketed
unfolding is_uri_byte
uri_hidden [] all = refl
uri_hidden (b ∷ bs) all =
    let parts = and_parts (is_uri_byte b) (list_all is_uri_byte bs) all in
    ap (λ r. place_after (Byte 44) (cond r Plain Bracketed) bs)
    (full_at is_uri_byte b 62 refl parts.0) ∙ uri_hidden bs parts.1

uri_bytes : (uri : List ℕ) → is_uri uri ≡ true → list_all is_uri_byte uri ≡ true
unfolding is_uri
uri_bytes uri is = run_all is_uri_byte uri is

display_hides : (display : List ℕ) → is_display_text display ≡ true
    → Passes (Byte 44) (display_part display)
unfolding is_display_text is_display_text_byte
display_hides [] is = refl
display_hides (b ∷ bs) is =
    by_bool (is_quoted (b ∷ bs)) (λ r. is_quoted (b ∷ bs) ≡ r
    → (r || (has_no_blank_ends (b ∷ bs) && list_all is_display_text_byte (b ∷ bs))) ≡ true
    → Passes (Byte 44) ((b ∷ bs) ++ (32 ∷ [])))
    (λ t e f. both_pass (Byte 44) (b ∷ bs) (32 ∷ []) (quoted_passes 44 refl (b ∷ bs) e) refl)
    (λ t e f. both_pass (Byte 44) (b ∷ bs) (32 ∷ [])
    (class_passes is_display_text_byte 44 refl refl refl (b ∷ bs)
    (and_parts (has_no_blank_ends (b ∷ bs)) (list_all is_display_text_byte (b ∷ bs)) f).1) refl)
    refl is

address_passes : (display uri : List ℕ) (ps : List Parameter) → is_display_text display ≡ true
    → is_uri uri ≡ true → AllByRecursion IsParameter ps
    → Passes (Byte 44) (shown_text display uri ps)
address_passes display uri ps shown is all =
    both_pass (Byte 44) (display_part display) (60 ∷ (uri ++ (62 ∷ parameters_text ps)))
    (display_hides display shown)
    (place_append (Byte 44) Bracketed Bracketed Plain uri (62 ∷ parameters_text ps)
    (uri_hidden uri (uri_bytes uri is)) (parameters_pass 44 comma_marks refl ps all))

-- one value in a list
pub one_of_list : {X : Type 0} (f : List ℕ → Option X) (x : X) (text : List ℕ)
    → Passes (Byte 44) text
    → f text ≡ Some x → split (Byte 44) f text ≡ Some (x ∷ [])
one_of_list f x text passes e =
    ap (each f) (split_none (Byte 44) Plain text (none_here (Byte 44) text passes))
    ∙ ap (λ o. option_and_then (λ y. Some (y ∷ [])) o) e

pub name_addr_again : (a : NameAddr) → IsNameAddr a
    → Again address.name_addrs_from (a ∷ []) (address_text a.display a.uri a.parameters)
name_addr_again a is =
    let shown = text_shown a.display is.display in
    moved (address_is a.display a.uri a.parameters) (record {
      read = one_of_list address.name_addr_from a (shown_text a.display a.uri a.parameters)
          (address_passes a.display a.uri a.parameters is.display is.uri is.parameters)
          (ap (option_map address.name_addr_of)
          (address_again is_display_text a.display a.uri a.parameters shown is.uri
          is.parameters));
      good = address_good is_display_text a.display a.uri a.parameters shown is.uri is.parameters;
    })

-- ---- Contacts

abbrev wildcard : NameAddr
wildcard = record { display = []; uri = codes "*"; parameters = [] }

none : {X : Type 0} (xs : List X) → nat_eq (length xs) 0 ≡ true → xs ≡ []
none xs e = nil_from_length xs (eqb-true (length xs) 0 e)

the_wildcard : (a : NameAddr) → is_wildcard a ≡ true → wildcard ≡ a
the_wildcard a is =
    let parts = and_parts (has_wildcard_uri a && nat_eq (length a.display) 0)
    (nat_eq (length a.parameters) 0) is in
    let front = and_parts (has_wildcard_uri a) (nat_eq (length a.display) 0) parts.0 in
    λ i. record {
      display = sym (none a.display front.1) i;
      uri = sym ((bytes_eq-Decides a.uri (codes "*")).0 front.0) i;
      parameters = sym (none a.parameters parts.1) i;
    }

wildcard_again : Again address.name_addrs_from (wildcard ∷ []) (codes "*")
unfolding is_uri is_uri_byte
wildcard_again = record { read = refl; good = record { kept = refl; plain = refl } }

pub contact_again : (a : NameAddr) → IsNameAddr a
    → Again address.name_addrs_from (a ∷ []) (contact_text a)
unfolding contact_text
contact_again a is =
    by_bool (is_wildcard a) (λ r. Again address.name_addrs_from (a ∷ [])
    (cond r (codes "*") (address_text a.display a.uri a.parameters)))
    (λ t. subst (λ (x : NameAddr). Again address.name_addrs_from (x ∷ []) (codes "*"))
    (the_wildcard a t) wildcard_again)
    (λ f. name_addr_again a is)
