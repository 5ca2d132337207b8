-- The mnemonics of the opcodes whose instructions are looked at (The Java Virtual Machine Specification, Java SE 8 Edition,
-- chapter 7).
use Rattle.std.specs.Prelude.{ℕ, Bool, true, false, List, Option, Some, None, codes, nat_lt, ◌==◌, if◌then◌else◌}
use Rattle.kb_code.specs.declared.form.Form.{Form}
use Rattle.kb_code.specs.declared.form.Form.TheVariants as forms
use Rattle.kb_code.specs.Forms.{form_of}

-- constants, 00 to 14
unfoldable pub constant_name : ℕ → Option (List ℕ)
constant_name op =
    if op == 0x00 then Some (codes "nop") else
    (if op == 0x01 then Some (codes "aconst_null") else
    (if op == 0x02 then Some (codes "iconst_m1") else
    (if op == 0x03 then Some (codes "iconst_0") else
    (if op == 0x04 then Some (codes "iconst_1") else
    (if op == 0x05 then Some (codes "iconst_2") else
    (if op == 0x06 then Some (codes "iconst_3") else
    (if op == 0x07 then Some (codes "iconst_4") else
    (if op == 0x08 then Some (codes "iconst_5") else
    (if op == 0x10 then Some (codes "bipush") else
    (if op == 0x11 then Some (codes "sipush") else
    (if op == 0x12 then Some (codes "ldc") else
    (if op == 0x13 then Some (codes "ldc_w") else
    None))))))))))))

-- loads, 15 to 35
unfoldable pub load_name : ℕ → Option (List ℕ)
load_name op =
    if op == 0x15 then Some (codes "iload") else
    (if op == 0x19 then Some (codes "aload") else
    (if op == 0x1a then Some (codes "iload_0") else
    (if op == 0x1b then Some (codes "iload_1") else
    (if op == 0x1c then Some (codes "iload_2") else
    (if op == 0x1d then Some (codes "iload_3") else
    (if op == 0x2a then Some (codes "aload_0") else
    (if op == 0x2b then Some (codes "aload_1") else
    (if op == 0x2c then Some (codes "aload_2") else
    (if op == 0x2d then Some (codes "aload_3") else
    (if op == 0x2e then Some (codes "iaload") else
    (if op == 0x32 then Some (codes "aaload") else
    (if op == 0x33 then Some (codes "baload") else
    None))))))))))))

-- stores, 36 to 56
unfoldable pub store_name : ℕ → Option (List ℕ)
store_name op =
    if op == 0x36 then Some (codes "istore") else
    (if op == 0x3a then Some (codes "astore") else
    (if op == 0x3b then Some (codes "istore_0") else
    (if op == 0x3c then Some (codes "istore_1") else
    (if op == 0x3d then Some (codes "istore_2") else
    (if op == 0x3e then Some (codes "istore_3") else
    (if op == 0x4b then Some (codes "astore_0") else
    (if op == 0x4c then Some (codes "astore_1") else
    (if op == 0x4d then Some (codes "astore_2") else
    (if op == 0x4e then Some (codes "astore_3") else
    (if op == 0x4f then Some (codes "iastore") else
    (if op == 0x53 then Some (codes "aastore") else
    (if op == 0x54 then Some (codes "bastore") else
    None))))))))))))

-- the operand stack, 57 to 5f
unfoldable pub stack_name : ℕ → Option (List ℕ)
stack_name op =
    if op == 0x57 then Some (codes "pop") else
    (if op == 0x58 then Some (codes "pop2") else
    (if op == 0x59 then Some (codes "dup") else
    (if op == 0x5a then Some (codes "dup_x1") else
    (if op == 0x5b then Some (codes "dup_x2") else
    (if op == 0x5c then Some (codes "dup2") else
    (if op == 0x5d then Some (codes "dup2_x1") else
    (if op == 0x5e then Some (codes "dup2_x2") else
    (if op == 0x5f then Some (codes "swap") else
    None))))))))

-- arithmetic, 60 to 84
unfoldable pub math_name : ℕ → Option (List ℕ)
math_name op =
    if op == 0x60 then Some (codes "iadd") else
    (if op == 0x64 then Some (codes "isub") else
    (if op == 0x68 then Some (codes "imul") else
    (if op == 0x6c then Some (codes "idiv") else
    (if op == 0x70 then Some (codes "irem") else
    (if op == 0x74 then Some (codes "ineg") else
    (if op == 0x78 then Some (codes "ishl") else
    (if op == 0x7a then Some (codes "ishr") else
    (if op == 0x7c then Some (codes "iushr") else
    (if op == 0x7e then Some (codes "iand") else
    (if op == 0x80 then Some (codes "ior") else
    (if op == 0x82 then Some (codes "ixor") else
    (if op == 0x84 then Some (codes "iinc") else
    None))))))))))))

-- conversions, 85 to 93
unfoldable pub conversion_name : ℕ → Option (List ℕ)
conversion_name op =
    if op == 0x91 then Some (codes "i2b") else
    (if op == 0x92 then Some (codes "i2c") else
    (if op == 0x93 then Some (codes "i2s") else
    None))

-- comparisons, 94 to a6
unfoldable pub comparison_name : ℕ → Option (List ℕ)
comparison_name op =
    if op == 0x99 then Some (codes "ifeq") else
    (if op == 0x9a then Some (codes "ifne") else
    (if op == 0x9b then Some (codes "iflt") else
    (if op == 0x9c then Some (codes "ifge") else
    (if op == 0x9d then Some (codes "ifgt") else
    (if op == 0x9e then Some (codes "ifle") else
    (if op == 0x9f then Some (codes "if_icmpeq") else
    (if op == 0xa0 then Some (codes "if_icmpne") else
    (if op == 0xa1 then Some (codes "if_icmplt") else
    (if op == 0xa2 then Some (codes "if_icmpge") else
    (if op == 0xa3 then Some (codes "if_icmpgt") else
    (if op == 0xa4 then Some (codes "if_icmple") else
    (if op == 0xa5 then Some (codes "if_acmpeq") else
    (if op == 0xa6 then Some (codes "if_acmpne") else
    None)))))))))))))

-- control, a7 to b1
unfoldable pub control_name : ℕ → Option (List ℕ)
control_name op =
    if op == 0xa7 then Some (codes "goto") else
    (if op == 0xaa then Some (codes "tableswitch") else
    (if op == 0xab then Some (codes "lookupswitch") else
    (if op == 0xac then Some (codes "ireturn") else
    (if op == 0xb0 then Some (codes "areturn") else
    (if op == 0xb1 then Some (codes "return") else
    None)))))

-- references, b2 to c3
unfoldable pub reference_name : ℕ → Option (List ℕ)
reference_name op =
    if op == 0xb4 then Some (codes "getfield") else
    (if op == 0xb5 then Some (codes "putfield") else
    (if op == 0xb6 then Some (codes "invokevirtual") else
    (if op == 0xb7 then Some (codes "invokespecial") else
    (if op == 0xb8 then Some (codes "invokestatic") else
    (if op == 0xb9 then Some (codes "invokeinterface") else
    (if op == 0xbb then Some (codes "new") else
    (if op == 0xbc then Some (codes "newarray") else
    (if op == 0xbd then Some (codes "anewarray") else
    (if op == 0xbe then Some (codes "arraylength") else
    (if op == 0xbf then Some (codes "athrow") else
    (if op == 0xc0 then Some (codes "checkcast") else
    (if op == 0xc1 then Some (codes "instanceof") else
    None))))))))))))

-- further opcodes, c4 to c9
unfoldable pub extended_name : ℕ → Option (List ℕ)
extended_name op =
    if op == 0xc4 then Some (codes "wide") else
    (if op == 0xc6 then Some (codes "ifnull") else
    (if op == 0xc7 then Some (codes "ifnonnull") else
    (if op == 0xc8 then Some (codes "goto_w") else
    None)))

-- the mnemonic of an opcode that is looked at
unfoldable pub name_of : ℕ → Option (List ℕ)
name_of op =
    if nat_lt op 0x15 then constant_name op else
    (if nat_lt op 0x36 then load_name op else
    (if nat_lt op 0x57 then store_name op else
    (if nat_lt op 0x60 then stack_name op else
    (if nat_lt op 0x85 then math_name op else
    (if nat_lt op 0x94 then conversion_name op else
    (if nat_lt op 0xa7 then comparison_name op else
    (if nat_lt op 0xb2 then control_name op else
    (if nat_lt op 0xc4 then reference_name op else
    (if nat_lt op 0xca then extended_name op else
    None)))))))))

-- whether an opcode's instruction is looked at, and not only skipped
abbrev pub is_looked_into : Option Form → Bool
is_looked_into None = false
is_looked_into (Some (forms.Skipped op n)) = false
is_looked_into (Some form) = true

abbrev pub is_looked_at : ℕ → Bool
is_looked_at op = is_looked_into (form_of op)
