mod Subtree
