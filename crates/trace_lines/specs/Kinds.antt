-- What is declared: kinds, counts and limits.
use Rattle.std.specs.Prelude.{ℕ, ◌+◌, ◌/◌, ◌%◌, ◌==◌, ◌||◌, not, nat_lt, nat_le, List, Bool, false, count_by, sum_by, if◌then◌else◌}
use Rattle.trace_lines.specs.declared.object.Declared.{Declared}
use Rattle.trace_lines.specs.declared.object.Declared.TheVariants as declared
use Rattle.line_forms.specs.declared.kind.Kind.{Kind}
use Rattle.line_forms.specs.declared.kind.Kind.TheVariants as kind
use Rattle.trace_lines.specs.declared.things.Thing.{Thing}
use Rattle.trace_lines.specs.Things.{same_kind}

abbrev pub kind_of : Declared → Kind
kind_of (declared.Queue t) = kind.Queue
kind_of (declared.Fence v) = kind.Fence
kind_of (declared.Buffer h n) = kind.Resource
kind_of (declared.Allocator t) = kind.Allocator
kind_of (declared.List t) = kind.List

-- how many objects of that kind are declared
abbrev pub count_of : Kind → List Declared → ℕ
count_of k ds = count_by (λ d. same_kind k (kind_of d)) ds

-- how many things of each kind a trace has at most
abbrev pub most_of : Kind → ℕ
most_of kind.Queue = 16
most_of kind.Fence = 256
most_of kind.Resource = 4096
most_of kind.Allocator = 1024
most_of kind.List = 1024
most_of kind.Thread = 16

-- the creation of a buffer of that size in bytes is refused
abbrev pub is_refused_size : ℕ → Bool
is_refused_size n = n == 0 || (not (n % 4 == 0) || nat_lt 1048576 n)

-- the creation of the object is refused
abbrev pub is_refused : Declared → Bool
is_refused (declared.Buffer h n) = is_refused_size n
is_refused _ = false

-- the words of an object; one whose creation is refused has none
abbrev pub words_of_object : Declared → ℕ
words_of_object (declared.Buffer h n) = if is_refused_size n then 0 else n / 4
words_of_object _ = 0

-- the words of all objects
abbrev pub words_of_all : List Declared → ℕ
words_of_all ds = sum_by words_of_object ds

-- one more object would be too many, or have too many words with the others
unfoldable pub is_one_too_many : List Declared → Declared → Bool
is_one_too_many ds d = nat_le (most_of (kind_of d)) (count_of (kind_of d) ds) || nat_lt 1048576 (words_of_all ds + words_of_object d)

-- what the next object's name names
abbrev pub next_thing : List Declared → Declared → Thing
next_thing ds d = record { kind = kind_of d; number = count_of (kind_of d) ds }
