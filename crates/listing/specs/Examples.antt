-- A small file of answers, and its listing as a person reads it. Definitions only.
use Rattle.std.specs.Prelude.{List, [], ◌∷◌, ◌++◌, ℕ, replicate}
use Prim.Native.String.{String}

-- an answer with this head: kind, code, rotations and mark
abbrev pub answer_with : ℕ → ℕ → ℕ → ℕ → List ℕ
answer_with kind code turns mark = 7 ∷ 0 ∷ 0 ∷ 0 ∷ kind ∷ code ∷ turns ∷ mark ∷ replicate 168 0

-- two tensors, one of them unsettled; 26 rotations, which no run makes; a pivot that is at most zero, and one that is NaN; no kind; a code that is in no
-- file; three bytes more
abbrev pub small_file : List ℕ
small_file =
    answer_with 2 0 9 1
    ++ (answer_with 2 0 25 0
    ++ (answer_with 4 0 26 1
    ++ (answer_with 5 6 1 0
    ++ (answer_with 8 9 3 0
    ++ (answer_with 77 3 0 0
    ++ (answer_with 1 2 0 0
    ++ (0 ∷ 0 ∷ 0 ∷ [])))))))

abbrev pub small_listing : List String
small_listing =
    "kind\tcode 0\tcode 1\tcode 3\tcode 4\tcode 5\tcode 6\tcode 7\tcode 9\tsettled\tunsettled\n"
    ∷ "1\t0\t0\t0\t0\t0\t0\t0\t0\t0\t0\n"
    ∷ "2\t2\t0\t0\t0\t0\t0\t0\t0\t1\t1\n"
    ∷ "3\t0\t0\t0\t0\t0\t0\t0\t0\t0\t0\n"
    ∷ "4\t0\t0\t0\t0\t0\t0\t0\t0\t0\t0\n"
    ∷ "5\t0\t0\t0\t0\t0\t1\t0\t0\t0\t0\n"
    ∷ "6\t0\t0\t0\t0\t0\t0\t0\t0\t0\t0\n"
    ∷ "7\t0\t0\t0\t0\t0\t0\t0\t0\t0\t0\n"
    ∷ "8\t0\t0\t0\t0\t0\t0\t0\t1\t0\t0\n"
    ∷ "other\t0\t0\t1\t0\t0\t0\t0\t0\t0\t0\n"
    ∷ "total\t2\t0\t1\t0\t0\t1\t0\t1\t1\t1\n"
    ∷ "records\t7\n"
    ∷ "foreign\t2\n"
    ∷ "left over\t3\n"
    ∷ "turns\tkind 2\tkind 4\n"
    ∷ "0\t0\t0\n"
    ∷ "1\t0\t0\n"
    ∷ "2\t0\t0\n"
    ∷ "3\t0\t0\n"
    ∷ "4\t0\t0\n"
    ∷ "5\t0\t0\n"
    ∷ "6\t0\t0\n"
    ∷ "7\t0\t0\n"
    ∷ "8\t0\t0\n"
    ∷ "9\t1\t0\n"
    ∷ "10\t0\t0\n"
    ∷ "11\t0\t0\n"
    ∷ "12\t0\t0\n"
    ∷ "13\t0\t0\n"
    ∷ "14\t0\t0\n"
    ∷ "15\t0\t0\n"
    ∷ "16\t0\t0\n"
    ∷ "17\t0\t0\n"
    ∷ "18\t0\t0\n"
    ∷ "19\t0\t0\n"
    ∷ "20\t0\t0\n"
    ∷ "21\t0\t0\n"
    ∷ "22\t0\t0\n"
    ∷ "23\t0\t0\n"
    ∷ "24\t0\t0\n"
    ∷ "25\t1\t0\n"
    ∷ []
