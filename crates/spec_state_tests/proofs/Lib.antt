mod Sorted
