-- A head of the version that the first line of a file names.
use Rattle.std.proofs.Common.{◌≡◌, ℕ, List, [], ◌∷◌, ◌++◌, Option, Some, None, sym, ap, ◌∙◌, append_assoc}
use Rattle.std.proofs.lemmas.Option.{some_pair_parts}
use Rattle.sip_text.proofs.Cuts.{cut_again}
use Rattle.sip_text.specs.Cut.{cut_at}
use Rattle.sip_files.specs.EventFile.{head_lines, version_line}
use Rattle.sip_files.specs.Written.{file_head, head_in}
use Rattle.sip_files.specs.declared.version.FileKind.TheVariants as file_kind
use Rattle.sip_files.specs.declared.version.Version.{Version}
use Rattle.sip_files.specs.declared.version.Version.TheVariants.{Two}
use Rattle.sip_files.proofs.FileLines.{version_no}
use Rattle.sip_files.proofs.WrittenLaws.{head_is, text_of, whole_head}
use Rattle.sip_files.specs.Rounds.{some_config}

pub others : List ℕ
others = text_of (head_lines (whole_head some_config))

pub in_parts : (version : Version)
    → head_in version some_config ≡ version_line version ++ 10 ∷ others
unfolding others
in_parts version =
    head_is version some_config
    ∙ append_assoc (version_line version) (10 ∷ [])
    (text_of (head_lines (whole_head some_config)))

cut_file : (file : List ℕ) (version : Version) (after : List ℕ)
    → file ≡ version_line version ++ 10 ∷ after
    → cut_at 10 file ≡ Some (version_line version, after)
cut_file file version after is =
    ap (cut_at 10) is ∙ cut_again 10 (version_line version) after (version_no version)

-- what was written has a first line
pub cut_written : (written : List ℕ) → written ≡ file_head file_kind.Events some_config
    → cut_at 10 written ≡ Some (version_line Two, others)
cut_written written is = cut_file written Two others (is ∙ in_parts Two)

pub has_line : (file : List ℕ) (version : Version) (after : List ℕ)
    → file ≡ version_line version ++ 10 ∷ after → cut_at 10 file ≡ None → ⊥
has_line file version after is none =
    let both : ◌≡◌ {A = Option (List ℕ × List ℕ)} None (Some (version_line version, after)) =
    sym none ∙ cut_file file version after is in
    absurd cc

pub written_has_line : (written : List ℕ) → written ≡ file_head file_kind.Events some_config
    → cut_at 10 written ≡ None → ⊥
written_has_line written is none =
    let both : ◌≡◌ {A = Option (List ℕ × List ℕ)} None (Some (version_line Two, others)) =
    sym none ∙ cut_written written is in
    absurd cc

-- the first line of the file, and the others of what was written
pub head_of : (file written line rest first more head : List ℕ)
    → written ≡ file_head file_kind.Events some_config → cut_at 10 file ≡ Some (line, rest)
    → cut_at 10 written ≡ Some (first, more) → head ≡ line ++ (10 ∷ more)
    → (version : Version) (after : List ℕ) → file ≡ version_line version ++ 10 ∷ after
    → head ≡ head_in version some_config
head_of file written line rest first more head is cut_file_is cut_written_is made version after
    begins =
    let own = some_pair_parts line (version_line version) rest after
    (sym cut_file_is ∙ cut_file file version after begins) in
    let behind = some_pair_parts first (version_line Two) more others
    (sym cut_written_is ∙ cut_written written is) in
    made ∙ ap (λ (t : List ℕ). t ++ (10 ∷ more)) own.0
    ∙ ap (λ (t : List ℕ). version_line version ++ (10 ∷ t)) behind.1
    ∙ sym (in_parts version)
