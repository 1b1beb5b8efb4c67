-- The texts that `explain` prints (chosen by this project).
--     page_of                    the page on a code or a word, in upper or lower case
--     page_text, contents_text   a page as it is printed, and all codes and words with their titles
--     AreAllPages                pages on all codes and words
--     IsExplained, IsContents    the texts that are printed for a code, and if no code is given
use Rattle.std.specs.Prelude.{◌≡◌, ℕ, List, [], ◌∷◌, ◌++◌, codes, flat_map, map, find, Bool, Option, option_map}
use Rattle.std.specs.Str.{str_eq_ignore_ascii_case}
use Rattle.std.specs.Str.Lines.{lines}
use Rattle.chip_pages.specs.declared.pages.Page.{Page}
use Rattle.chip_pages.specs.declared.pages.Example.{Example}
use Rattle.chip_pages.specs.declared.pages.Example.TheVariants.{Source, Script, Stop, Told, Answer}

-- whether a page has this code, in upper or lower case
abbrev pub has_code : List ℕ → Page → Bool
has_code code page = str_eq_ignore_ascii_case page.code.now code

-- the first of the pages with this code, if there is one
unfoldable pub page_of : List Page → List ℕ → Option Page
page_of pages code = find (has_code code) pages

-- a line with four spaces before it and a newline after it
abbrev pub indented_line : List ℕ → List ℕ
indented_line line = codes "    " ++ (line ++ codes "\n")

abbrev pub indented : List ℕ → List ℕ
indented text = flat_map indented_line (lines text)

abbrev pub example_text : Example → List ℕ
example_text (Source source) =
    codes "The last line of this source has it:\n\n" ++ indented source.now
example_text (Script source script) =
    codes "On this source:\n\n"
    ++ (indented source.now
    ++ (codes "\nthe last of these commands is refused so:\n\n" ++ indented script.now))
example_text (Stop source) =
    codes "The program of this source stops so, as `regs 100` shows:\n\n" ++ indented source.now
example_text (Told what) = codes "An example: " ++ (what.now ++ codes "\n")
example_text (Answer source script answer) =
    codes "On this source:\n\n"
    ++ (indented source.now
    ++ (codes "\nthe answer to this:\n\n"
    ++ (indented script.now ++ (codes "\nis this:\n\n" ++ indented answer.now))))

-- the label before the last sentence of a page with an example of this kind
abbrev pub last_label : Example → List ℕ
last_label (Answer source script answer) = codes "\nSee also: "
last_label _ = codes "\nThe fix: "

unfoldable pub page_text : Page → List ℕ
page_text page =
    page.code.now
    ++ (codes ": " ++ (page.title.now ++ (codes "\n\n" ++ (page.meaning.now ++ (codes "\n\n"
    ++ (example_text page.example ++ (last_label page.example ++ (page.fix.now ++ codes "\n"))))))))

-- the line of a page in the list of all pages
abbrev pub title_line : Page → List ℕ
title_line page = page.code.now ++ (codes "  " ++ (page.title.now ++ codes "\n"))

unfoldable pub contents_text : List Page → List ℕ
contents_text pages = flat_map title_line pages

-- the codes and words of the given pages
abbrev pub codes_of : List Page → List (List ℕ)
codes_of pages = map (λ page. page.code.now) pages

-- the codes of faults, F1 to F17, of warnings, W1 to W9, and of faults of properties, P1 to P6
abbrev pub line_codes : List (List ℕ)
line_codes = codes "F1" ∷ codes "F2" ∷ codes "F3" ∷ codes "F4" ∷ codes "F5" ∷ codes "F6" ∷ codes "F7" ∷ codes "F8" ∷ codes "F9" ∷ codes "F10" ∷ codes "F11" ∷ codes "F12" ∷ codes "F13" ∷ codes "F14" ∷ codes "F15" ∷ codes "F16" ∷ codes "F17" ∷ codes "W1" ∷ codes "W2" ∷ codes "W3" ∷ codes "W4" ∷ codes "W5" ∷ codes "W6" ∷ codes "W7" ∷ codes "W8" ∷ codes "W9" ∷ codes "P1" ∷ codes "P2" ∷ codes "P3" ∷ codes "P4" ∷ codes "P5" ∷ codes "P6" ∷ []

-- the codes of refused commands: N1 to N10 for edits, Q1 to Q4 for questions, C1 and C2 for lines
abbrev pub command_codes : List (List ℕ)
command_codes = codes "N1" ∷ codes "N2" ∷ codes "N3" ∷ codes "N4" ∷ codes "N5" ∷ codes "N6" ∷ codes "N7" ∷ codes "N8" ∷ codes "N9" ∷ codes "N10" ∷ codes "Q1" ∷ codes "Q2" ∷ codes "Q3" ∷ codes "Q4" ∷ codes "C1" ∷ codes "C2" ∷ []

-- the codes for endings: E1 to E4 for a session that ends, O1 to O3 for a source that doesn't open,
-- and S1 to S7 for a machine that stops
abbrev pub end_codes : List (List ℕ)
end_codes = codes "E1" ∷ codes "E2" ∷ codes "E3" ∷ codes "E4" ∷ codes "O1" ∷ codes "O2" ∷ codes "O3" ∷ codes "S1" ∷ codes "S2" ∷ codes "S3" ∷ codes "S4" ∷ codes "S5" ∷ codes "S6" ∷ codes "S7" ∷ []

-- the words that begin the commands of a script
abbrev pub words : List (List ℕ)
words = codes "ins" ∷ codes "rep" ∷ codes "del" ∷ codes "kins" ∷ codes "krep" ∷ codes "kdel" ∷ codes "image" ∷ codes "syms" ∷ codes "list" ∷ codes "faults" ∷ codes "regs" ∷ codes "mem" ∷ codes "screen" ∷ codes "dis" ∷ []

-- The pages cover all codes and words, in the order of the documents. Clauses can't name the
-- program's own pages, because these are statics.
abbrev pub AreAllPages : List Page → Type 0
AreAllPages pages = codes_of pages ≡ line_codes ++ (command_codes ++ (end_codes ++ words))

-- the page on a code or a word, if there is one
pub record IsPageOn (code : List ℕ) (page : Option Page) : Type 0 where
  pub pages : List Page
  pub all : AreAllPages pages
  pub found : page ≡ page_of pages code

-- the text that is printed for a code or a word: the text of its page, if there is one
pub record IsExplained (code : List ℕ) (text : Option (List ℕ)) : Type 0 where
  pub page : Option Page
  pub on_code : IsPageOn code page
  pub text_is : text ≡ option_map page_text page

-- the text that is printed if no code is given: all codes and words with their titles
pub record IsContents (text : List ℕ) : Type 0 where
  pub pages : List Page
  pub all : AreAllPages pages
  pub text_is : text ≡ contents_text pages
