-- The assembler text of the sample of so many blocks: a class with one static method, which counts the blocks that find the first of
-- two of its four ints below the second. Its instructions are those of JVMS 8 section 6.5.
use Rattle.std.specs.Prelude.{ℕ, zero, suc, ◌%◌, List, [], ◌∷◌, ◌++◌, codes, get_or}
use Rattle.std.specs.Fmt.{decimal}

-- the class and its method, and the count, which begins with 0
unfoldable pub head_text : List ℕ
head_text = codes "class 0021 Sample java/lang/Object\nmethod 0009 run (IIII)I 2 5\niconst_0\nistore 4\n"

-- the pairs of two of four arguments
abbrev pub pairs : List (ℕ × ℕ)
pairs = (0, 1) ∷ (0, 2) ∷ (0, 3) ∷ (1, 2) ∷ (1, 3) ∷ (2, 3) ∷ []

-- blocks compare them in turn
unfoldable pub pair_of : ℕ → ℕ × ℕ
pair_of block = get_or pairs (block % 6) (0, 0)

-- a line that ends with a number
unfoldable pub numbered_line : List ℕ → ℕ → List ℕ
numbered_line front number = front ++ (decimal number ++ codes "\n")

-- two arguments
unfoldable pub loads_text : ℕ × ℕ → List ℕ
loads_text pair = numbered_line (codes "iload ") pair.0 ++ numbered_line (codes "iload ") pair.1

unfoldable pub increment_line : List ℕ
increment_line = codes "iinc 4 1\n"

-- 1 is added to the count, unless the first of both is not below the second
unfoldable pub count_text : ℕ → List ℕ
count_text block = numbered_line (codes "if_icmpge L") block ++ (increment_line ++ numbered_line (codes ":L") block)

-- the block of that number, from 0
unfoldable pub block_text : ℕ → List ℕ
block_text block = loads_text (pair_of block) ++ count_text block

-- the first so many blocks
abbrev pub blocks_text : ℕ → List ℕ
blocks_text zero = []
blocks_text (suc block) = blocks_text block ++ block_text block

-- the count is returned
unfoldable pub end_text : List ℕ
end_text = codes "iload 4\nireturn\nend\n"

-- The text of the sample of so many blocks.
unfoldable pub sample_text : ℕ → List ℕ
sample_text blocks = head_text ++ (blocks_text blocks ++ end_text)
