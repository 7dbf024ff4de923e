-- The lines of a pipe that were posted so far, and one more.
use Rattle.std.proofs.Common.{◌≡◌, ℕ, ◌+◌, ◌<◌, List, [], ◌∷◌, ◌++◌, length, refl, sym, ap, subst, ◌∙◌, append_assoc, append-nil, arith, IfSome}
use Rattle.std.proofs.lemmas.List.{length-append}
use Rattle.std.specs.Prelude.{Option, Some, None}
use Rattle.std.specs.Io.BufRead.{take_through, drop_through, DropsThrough}
use Rattle.sip_files.specs.declared.version.FileKind.{FileKind}
use Rattle.sip_udp.specs.declared.pipe_input.PipeLine.{PipeLine}
use Rattle.sip_udp.specs.Piping.{SaysRead, SayLines, PostsFront}

-- what was read from the pipe was posted, and the next line has this number
pub record FedSoFar (kind : FileKind) (text : List ℕ) (left : Option (List ℕ))
    (before now : List PipeLine) (number : ℕ) : Type 0 where
  pub said : List PipeLine
  pub rest : List ℕ
  pub known : left ≡ Some rest
  pub appended : now ≡ before ++ said
  pub lines : SayLines kind 1 text said rest
  pub next : number ≡ 1 + length said

-- if a line has bytes, so has the text that it begins
some_left : (rest : List ℕ) → 0 < length (take_through 10 rest) → 0 < length rest
some_left [] some = some
some_left (x ∷ rest) some = omega arith

-- one more line at the end
say_more : (kind : FileKind) (number : ℕ) (text : List ℕ) (said : List PipeLine) (rest : List ℕ)
    (one : PipeLine) → SayLines kind number text said rest → 0 < length rest
    → SaysRead kind (number + length said) (take_through 10 rest) one
    → SayLines kind number text (said ++ one ∷ []) (drop_through 10 rest)
say_more kind number text [] rest one lines some says =
    let same : rest ≡ text = lines in (
      subst (λ t. 0 < length t) same some,
      subst (λ t. SaysRead kind number (take_through 10 t) one) same
          (subst (λ n. SaysRead kind n (take_through 10 rest) one) (omega arith) says),
      ap (drop_through 10) same,
    )
say_more kind number text (first ∷ said) rest one lines some says = (
  lines.0,
  lines.1,
  say_more kind (number + 1) (drop_through 10 text) said rest one lines.2 some
      (subst (λ n. SaysRead kind n (take_through 10 rest) one) (omega arith) says),
)

-- ---- a pipe whose bytes may be known

pub fed_nothing : (kind : FileKind) (known : Option (List ℕ)) (before : List PipeLine)
    → IfSome known (λ text. FedSoFar kind text known before before 1)
fed_nothing kind None before = tt
fed_nothing kind (Some text) before = record {
  said = [];
  rest = text;
  known = refl;
  appended = sym (append-nil before);
  lines = refl;
  next = refl;
}

pub fed_front : (kind : FileKind) (known left : Option (List ℕ)) (before now : List PipeLine)
    (number : ℕ)
    → IfSome known (λ text. FedSoFar kind text left before now number)
    → IfSome known (PostsFront kind before now)
fed_front kind None left before now number so_far = tt
fed_front kind (Some text) left before now number so_far =
    (so_far.said, so_far.rest, so_far.appended, so_far.lines)

-- one more line was read
pub fed_more : (kind : FileKind) (known left later : Option (List ℕ))
    (before now next : List PipeLine) (number : ℕ)
    (line : List ℕ) (one : PipeLine)
    → IfSome known (λ text. FedSoFar kind text left before now number)
    → IfSome left (λ xs. line ≡ take_through 10 xs) → DropsThrough left later 10
    → 0 < length line → SaysRead kind number line one → next ≡ now ++ one ∷ []
    → IfSome known (λ text. FedSoFar kind text later before next (number + 1))
fed_more kind None left later before now next number line one so_far front drops some says more = tt
fed_more kind (Some text) left later before now next number line one so_far front drops some says
    more =
    let rest : List ℕ = so_far.rest in
    let first : line ≡ take_through 10 rest =
    subst (λ l. IfSome l (λ xs. line ≡ take_through 10 xs)) so_far.known front in
    record {
      said = so_far.said ++ one ∷ [];
      rest = drop_through 10 rest;
      known = subst (λ l. DropsThrough l later 10) so_far.known drops;
      appended =
          more ∙ ap (λ l. l ++ one ∷ []) so_far.appended
          ∙ append_assoc before so_far.said (one ∷ []);
      lines =
          say_more kind 1 text so_far.said rest one so_far.lines
          (some_left rest (subst (λ l. 0 < length l) first some))
          (subst (λ l. SaysRead kind l (take_through 10 rest) one) so_far.next
          (subst (λ l. SaysRead kind number l one) first says));
      next = omega (arith, so_far.next, length-append so_far.said (one ∷ []));
    }

-- what was read into an empty text is all of that text
pub read_front : (left : Option (List ℕ)) (before text : List ℕ) → before ≡ []
    → IfSome left (λ xs. text ≡ before ++ take_through 10 xs)
    → IfSome left (λ xs. text ≡ take_through 10 xs)
read_front None before text nothing read = tt
read_front (Some xs) before text nothing read =
    read ∙ ap (λ b. b ++ take_through 10 xs) nothing
