-- The command line of the program, as `clap` sees it (chosen by this project). Clauses refer to commands
-- and arguments by these definitions, which are unfolded at each use.
use Rattle.std.specs.Prelude.{ℕ, List, [], ◌∷◌, Some, codes, true, pos}
use Rattle.clap.specs.Words.{App, Rule, new_app, new_rule, with_rule, with_subcommand}
use Rattle.chip_replay.specs.declared.limits.TheConstants.{LAST_STEP, LEAST_SPACING, MOST_RATE, MOST_SPACING}
use Rattle.chip_arguments.specs.declared.limits.TheConstants.{MOST_LINE, MOST_MEMORY, MOST_SCALE, MOST_SECONDS, MOST_STATES}
use Rattle.clap.specs.declared.builder.action.ArgAction.TheVariants.{Append, Set, SetTrue}
use Rattle.clap.specs.declared.builder.value_parser.ValueParser.TheVariants as vp

-- an argument `--NAME` without a value
abbrev pub flag : List ℕ → Rule
flag name = record (new_rule name) { long = Some name; action = Some SetTrue }

-- an argument `--NAME VALUE`
abbrev pub option : List ℕ → Rule
option name = record (new_rule name) { long = Some name; value_names = 1 }

-- an argument `--NAME VALUE` whose value is a number in a range
abbrev pub number : List ℕ → (least most : ℕ) → Rule
number name least most = record (option name) { parser = Some (vp.Signed (pos least) (pos most)) }

-- a positional argument
abbrev pub place : List ℕ → Rule
place name = record (new_rule name) { value_names = 1; action = Some Set }

unfoldable pub source : Rule
source = place (codes "source")

unfoldable pub needed_source : Rule
needed_source = record source { required = true }

-- the file that `asm` writes
unfoldable pub output : Rule
output = record (place (codes "output")) { required = true }

-- the image that `dis` reads
unfoldable pub image : Rule
image = record (place (codes "image")) { required = true }

unfoldable pub steps : Rule
steps = record (number (codes "steps") 0 LAST_STEP) { required = true }

unfoldable pub rate : Rule
rate = record (number (codes "rate") 1 MOST_RATE) { defaults = codes "10" ∷ [] }

unfoldable pub tape : Rule
tape = option (codes "tape")

unfoldable pub seed : Rule
seed = record (option (codes "seed")) { parser = Some (vp.Unsigned 0 18446744073709551615) }

-- any text, because `clap` doesn't check the names of the profiles
unfoldable pub profile : Rule
profile = option (codes "profile")

-- any text, because `clap` doesn't check the choices of quirks
unfoldable pub quirks : Rule
quirks = option (codes "quirks")

unfoldable pub every : Rule
every = number (codes "every") LEAST_SPACING MOST_SPACING

-- the flag that marks SOURCE as an image
unfoldable pub as_image : Rule
as_image = flag (codes "image")

unfoldable pub with_settings : App → App
with_settings app =
    with_rule (with_rule (with_rule (with_rule (with_rule app rate) tape) seed) profile) quirks

-- the flag that switches off messages at a terminal, except for the answers
unfoldable pub quiet : Rule
quiet = flag (codes "quiet")

unfoldable pub debug : App
debug =
    with_rule (with_rule (with_rule (with_settings (with_rule (new_app (codes "debug")) source)) every) as_image)
    quiet

unfoldable pub asm : App
asm = with_rule (with_rule (new_app (codes "asm")) needed_source) output

-- the flag for values in hexadecimal
unfoldable pub hex : Rule
hex = flag (codes "hex")

unfoldable pub list : App
list = with_rule (with_rule (with_rule (new_app (codes "list")) needed_source) hex) as_image

unfoldable pub syms : App
syms = with_rule (with_rule (new_app (codes "syms")) needed_source) hex

-- the flag for a JSON object per line
unfoldable pub json : Rule
json = flag (codes "json")

-- the warnings that are not printed
unfoldable pub allow : Rule
allow = option (codes "allow")

-- the sources that are checked, one or more
unfoldable pub sources : Rule
sources = record (place (codes "sources")) { action = Some Append; required = true }

-- any text, because `clap` doesn't check the choice of colours
unfoldable pub color : Rule
color = option (codes "color")

-- the flag that asks which instructions key scripts execute
unfoldable pub cover : Rule
cover = flag (codes "cover")

-- the number of seconds after which a search ends
unfoldable pub seconds : Rule
seconds = number (codes "seconds") 1 MOST_SECONDS

unfoldable pub check : App
check =
    with_rule (with_rule (with_rule (with_rule (with_rule (with_rule (with_rule (with_rule (with_rule (with_rule
    (new_app (codes "check"))
    sources) json) allow) cover) seconds) color) tape) seed) profile) quirks

unfoldable pub dis : App
dis = with_rule (new_app (codes "dis")) image

unfoldable pub keys : Rule
keys = option (codes "keys")

unfoldable pub ascii : Rule
ascii = flag (codes "ascii")

unfoldable pub pbm : Rule
pbm = option (codes "pbm")

unfoldable pub png : Rule
png = option (codes "png")

unfoldable pub scale : Rule
scale = number (codes "scale") 1 MOST_SCALE

unfoldable pub code : Rule
code = place (codes "code")

-- the files of cases, one or more
unfoldable pub files : Rule
files = record (place (codes "files")) { action = Some Append; required = true }

unfoldable pub update : Rule
update = flag (codes "update")

unfoldable pub tap : Rule
tap = flag (codes "tap")

unfoldable pub from : Rule
from = record (number (codes "from") 0 LAST_STEP) { defaults = codes "0" ∷ [] }

unfoldable pub hash : Rule
hash = flag (codes "hash")

unfoldable pub against : Rule
against = option (codes "against")

-- the arguments that describe a run
unfoldable pub with_steps : App → App
with_steps app =
    with_rule (with_rule (with_settings (with_rule (with_rule app needed_source) steps)) keys) as_image

unfoldable pub run : App
run = with_steps (new_app (codes "run"))

unfoldable pub trace : App
trace =
    with_rule (with_rule (with_rule (with_rule (with_steps (new_app (codes "trace"))) from) hash) json)
    against

unfoldable pub picture : App
picture =
    with_rule (with_rule (with_rule (with_rule (with_steps (new_app (codes "picture"))) ascii) pbm) png)
    scale

unfoldable pub test : App
test = with_rule (with_rule (with_rule (new_app (codes "test")) files) update) tap

-- the step up to which a search goes
unfoldable pub search_steps : Rule
search_steps = number (codes "steps") 0 LAST_STEP

unfoldable pub states : Rule
states = record (number (codes "states") 1 MOST_STATES) { defaults = codes "1000000" ∷ [] }

-- the maximum number of megabytes that a search uses
unfoldable pub memory : Rule
memory = record (number (codes "memory") 1 MOST_MEMORY) { defaults = codes "1000" ∷ [] }

unfoldable pub want : Rule
want = option (codes "want")

unfoldable pub allowed_keys : Rule
allowed_keys = option (codes "keys-allowed")

unfoldable pub keys_to : Rule
keys_to = option (codes "keys-to")

-- the place that a search looks for
unfoldable pub reach : Rule
reach = option (codes "reach")

-- a condition that a search looks for: `never` for a state where it holds, `always` for one where it doesn't
unfoldable pub never : Rule
never = option (codes "never")

unfoldable pub always : Rule
always = option (codes "always")

-- the line of the only property to answer
unfoldable pub only : Rule
only = number (codes "only") 1 MOST_LINE

-- the flag for a second search, deepest states first
unfoldable pub deep : Rule
deep = flag (codes "deep")

-- the flag for a search that looks for an answer at any speed
unfoldable pub any_speed : Rule
any_speed = flag (codes "any-speed")

-- the flag for a search that begins at once, without facts
unfoldable pub no_facts : Rule
no_facts = flag (codes "no-facts")

unfoldable pub progress : Rule
progress = flag (codes "progress")

-- the arguments that control a search
unfoldable pub with_search : App → App
with_search app =
    with_rule (with_rule (with_rule (with_rule (with_rule (with_rule (with_rule (with_rule (with_rule (with_rule (with_rule app
    needed_source) search_steps) states) memory) seconds) deep) any_speed) allowed_keys) keys_to) progress) no_facts

unfoldable pub explore : App
explore =
    with_rule (with_rule (with_rule (with_rule (with_rule (with_rule (with_settings (with_search
    (new_app (codes "explore")))) as_image) want) reach) never) always) cover

unfoldable pub prove : App
prove =
    with_rule (with_rule (with_settings (with_search (new_app (codes "prove")))) only) json

unfoldable pub explain : App
explain = with_rule (new_app (codes "explain")) code

unfoldable pub licences : App
licences = new_app (codes "licences")

abbrev pub without_name : App → App
without_name app = record app { top = record app.top { no_binary_name = true } }

abbrev pub with_version : App → App
with_version app = record app { top = record app.top { has_version = true } }

-- a program with these commands, in order
abbrev pub with_commands : App → List App → App
with_commands app [] = app
with_commands app (command ∷ commands) = with_commands (with_subcommand app command.top) commands

-- the program with its commands
unfoldable pub chipbench : App
chipbench =
    with_commands (without_name (with_version (new_app (codes "chipbench"))))
    (debug ∷ asm ∷ list ∷ syms ∷ dis ∷ run ∷ trace ∷ picture ∷ check ∷ test ∷ explore
    ∷ prove ∷ explain ∷ licences ∷ [])
